use Rattle.std.proofs.Common.{◌≡◌, length}
use Rattle.asl_drafts.proofs.Turns.{ArePlacedBefore}
use Rattle.asl_drafts.proofs.waiting.places_in.Given as goal

abbrev pub invariant-loop-place : goal.invariant-loop-place
invariant-loop-place l = record {
  many : length l.places.items ≡ l.count;
  placed : ArePlacedBefore l.order l.places.items l.place;
}
