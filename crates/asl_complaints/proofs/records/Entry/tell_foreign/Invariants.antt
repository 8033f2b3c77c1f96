use Rattle.std.proofs.Common.{map}
use Rattle.asl_records.specs.View.{complaint_view}
use Rattle.asl_complaints.proofs.Parts.{foreign}
use Rattle.asl_complaints.proofs.Telling.{TellsOf}
use Rattle.asl_complaints.proofs.records.Entry.tell_foreign.Given as goal

abbrev pub invariant-loop-field : goal.invariant-loop-field
invariant-loop-field l =
    TellsOf (map complaint_view l.initial.told.items) (map complaint_view l.told.items) (foreign l.self.name.now (map (λ k. k.now) l.known) l.fields.entries) (foreign l.self.name.now (map (λ k. k.now) l.known) l.field-iterator)
