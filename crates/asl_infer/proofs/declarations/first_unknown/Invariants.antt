use Rattle.std.proofs.Common.{map}
use Rattle.asl_records.specs.View.{declared_view}
use Rattle.asl_machine_table.specs.Table.{table_view}
use Rattle.asl_infer.proofs.TaskNames.{UnknownLeft, task_seen}
use Rattle.asl_infer.proofs.declarations.first_unknown.Given as goal

abbrev pub invariant-loop-name : goal.invariant-loop-name
invariant-loop-name l = UnknownLeft (table_view l.machine) (declared_view l.declared).tasks (map task_seen l.name-iterator) l.first
