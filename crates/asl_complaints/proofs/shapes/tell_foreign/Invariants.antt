use Rattle.std.proofs.Common.{map}
use Rattle.asl_shape.specs.Refusal.{fault_named}
use Rattle.asl_shape.specs.Spelled.{entries_view}
use Rattle.asl_complaints.specs.Parts.{foreign_of}
use Rattle.asl_complaints.proofs.Telling.{TellsOf}
use Rattle.asl_complaints.proofs.shapes.tell_foreign.Given as goal

abbrev pub invariant-loop-keyword : goal.invariant-loop-keyword
invariant-loop-keyword l =
    TellsOf (map fault_named l.initial.told.items) (map fault_named l.told.items) (foreign_of l.typed (map (λ k. k.now) l.known) (entries_view l.keywords.entries)) (foreign_of l.typed (map (λ k. k.now) l.known) (entries_view l.keyword-iterator))
