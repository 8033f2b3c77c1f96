use Rattle.asl_model.specs.Records.{declared_reading, task_rows, task_from}
use Rattle.asl_records.specs.View.{task_view}
use Rattle.asl_records.specs.Proper.{AreProperTasks}
use Rattle.asl_records.proofs.Entries.{Reads}
use Rattle.asl_records.proofs.declarations.read_entries.Given as goal

abbrev pub invariant-loop-name : goal.invariant-loop-name
invariant-loop-name l = record {
  reads : Reads declared_reading task_view task_rows task_from l.entries.entries l.name-iterator l.tasks.entries;
  proper : AreProperTasks l.tasks.entries;
}
