use Rattle.std.proofs.Common.{◌≡◌, drop}
use Rattle.json.specs.Json.{Json, Items}
use Rattle.json.specs.Find.{InItems, get_item, at}
use Rattle.asl_places.specs.Found.{BeginsAt}
use Rattle.asl_places.proofs.outline.Outline.element.Given as goal

abbrev pub invariant-loop-item : goal.invariant-loop-item
invariant-loop-item l = record {
  tokens : l.items.0 ≡ l.self.0;
  search : (j : Json) → BeginsAt l.self.0 l.fn.list j → (rest : Items) × InItems (drop l.items.1 l.items.0) rest × (at l.index j ≡ get_item l.left rest);
}

abbrev pub decreases-loop-item : goal.decreases-loop-item
decreases-loop-item l = l.left
