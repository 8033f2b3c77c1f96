use Rattle.asl_model.specs.RecordShapes.{HoldsForTask}
use Rattle.asl_model.specs.Written.{written_task}
use Rattle.asl_records.specs.View.{task_view}
use Rattle.asl_records.specs.Writing.{IsSpelled}
use Rattle.asl_records.proofs.Writings.{Writes}
use Rattle.asl_records.proofs.writing.write_tasks.Given as goal
use Rattle.std.specs.String.{string_bytes}

abbrev pub invariant-loop-name : goal.invariant-loop-name
invariant-loop-name l = Writes string_bytes task_view written_task (HoldsForTask IsSpelled) l.tasks.entries l.name-iterator l.entries.entries
