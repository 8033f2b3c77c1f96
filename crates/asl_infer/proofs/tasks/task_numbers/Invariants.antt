use Rattle.std.proofs.Common.{◌≡◌, length}
use Rattle.asl_numbered.specs.Expansion.{Keeps}
use Rattle.asl_records.specs.View.{declared_view}
use Rattle.asl_machine_table.specs.Table.{table_view}
use Rattle.asl_infer.specs.Tasks.{AreTasks}
use Rattle.asl_infer.proofs.tasks.task_numbers.Given as goal

abbrev pub invariant-loop-number : goal.invariant-loop-number
invariant-loop-number l =
    Keeps l.initial.store l.store
    × (l.number ≡ length l.tasks.items)
    × AreTasks (declared_view l.declared) (table_view l.machine).names l.store l.tasks.items
