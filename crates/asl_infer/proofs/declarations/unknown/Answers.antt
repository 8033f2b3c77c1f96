use Rattle.std.proofs.Common.{refl, sym, ◌∙◌}
use Rattle.asl_machine_table.specs.Table.{table_view}
use Rattle.asl_infer.proofs.TaskNames.{known-of, unknown-of}
use Rattle.asl_infer.proofs.declarations.unknown.Goals as goal

pub returns-then-names_task : goal.returns-then-names_task
returns-then-names_task c = known-of (table_view c.args.machine.now) c.args.name.now (sym c.names_task.ensures ∙ c.if-names_task.true)

pub returns-else-names_task : goal.returns-else-names_task
returns-else-names_task c = unknown-of (table_view c.args.machine.now) c.args.name.now _ (sym c.names_task.ensures ∙ c.if-names_task.false) refl
