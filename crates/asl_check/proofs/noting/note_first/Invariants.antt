use Rattle.asl_numbered.specs.Expansion.{Keeps}
use Rattle.asl_check.specs.Listing.{rules_view}
use Rattle.asl_check.specs.Noting.{AreNoted}
use Rattle.asl_check.proofs.Notes.{with_left}
use Rattle.asl_check.proofs.noting.note_first.Given as goal

-- those of the rules left are still to be noted, and the shapes have kept their numbers
abbrev pub invariant-loop-rule : goal.invariant-loop-rule
invariant-loop-rule l =
    let table = l.fn.shapes in
    record {
      keeps : Keeps table l.shapes;
      left : AreNoted (rules_view table l.rules) (with_left table l.rules l.notes.entries l.rule-index);
    }
