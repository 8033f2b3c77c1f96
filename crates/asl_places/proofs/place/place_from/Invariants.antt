use Rattle.std.proofs.Common.{◌≡◌, take}
use Rattle.asl_places.specs.Place.{line_behind, column_behind}
use Rattle.asl_places.proofs.place.place_from.Given as goal

abbrev pub invariant-loop-at : goal.invariant-loop-at
invariant-loop-at l = record {
  line : l.line ≡ line_behind (take l.at l.text);
  column : l.column ≡ column_behind (take l.at l.text);
}
