use Rattle.std.proofs.Common.{◌≡◌, ◌*◌, length}
use Rattle.asl_places.specs.Place.{AreMarked, IsPlaceAt}
use Rattle.asl_places.proofs.place.Places.of.Given as goal

abbrev pub invariant-loop-number : goal.invariant-loop-number
invariant-loop-number l = record {
  many : length l.marks.items ≡ l.number;
  marked : AreMarked l.text l.marks.items;
  place : IsPlaceAt l.text (l.number * 1024) l.place;
}
