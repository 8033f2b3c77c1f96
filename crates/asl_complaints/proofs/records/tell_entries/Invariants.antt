use Rattle.std.proofs.Common.{map}
use Rattle.asl_model.specs.Records.{declared_reading, entries_complaints, task_rows}
use Rattle.asl_records.specs.View.{complaint_view}
use Rattle.asl_complaints.proofs.Parts.{members}
use Rattle.asl_complaints.proofs.Telling.{TellsOf}
use Rattle.asl_complaints.proofs.records.tell_entries.Given as goal

abbrev pub invariant-loop-name : goal.invariant-loop-name
invariant-loop-name l =
    TellsOf (map complaint_view l.initial.told.items) (map complaint_view l.told.items) (entries_complaints declared_reading task_rows (members l.entries.entries)) (entries_complaints declared_reading task_rows (members l.name-iterator))
