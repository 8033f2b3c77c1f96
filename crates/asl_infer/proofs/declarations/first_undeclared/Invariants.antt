use Rattle.asl_records.specs.View.{declared_view}
use Rattle.asl_machine_table.specs.Table.{table_view}
use Rattle.asl_infer.proofs.TaskNames.{UndeclaredLeft}
use Rattle.asl_infer.proofs.declarations.first_undeclared.Given as goal

abbrev pub invariant-loop-number : goal.invariant-loop-number
invariant-loop-number l = UndeclaredLeft (table_view l.machine) (declared_view l.declared) l.number-index l.first
