use Rattle.asl_drafts.specs.Waiting.{AreTurnsAt}
use Rattle.asl_drafts.proofs.waiting.turns_at.Given as goal

abbrev pub invariant-loop-place : goal.invariant-loop-place
invariant-loop-place l = AreTurnsAt l.places l.place-index l.turns
