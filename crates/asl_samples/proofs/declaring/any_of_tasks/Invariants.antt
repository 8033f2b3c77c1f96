use Rattle.asl_records.specs.View.{tasks_view}
use Rattle.asl_machine_table.specs.Table.{table_view}
use Rattle.asl_samples.specs.Tasks.{AreTasksOf}
use Rattle.asl_samples.proofs.declaring.any_of_tasks.Given as goal

abbrev pub invariant-loop-number : goal.invariant-loop-number
invariant-loop-number l = AreTasksOf (table_view l.machine) l.number (tasks_view l.tasks.entries)
