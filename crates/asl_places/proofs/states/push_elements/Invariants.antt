use Rattle.std.proofs.Common.{◌≡◌, ◌<◌, ◌≤◌, ◌-◌, ℕ, length, drop}
use Rattle.json.specs.Json.{Json, Items}
use Rattle.json.specs.Find.{InItems}
use Rattle.asl_places.specs.Found.{BeginsAt}
use Rattle.asl_places.specs.Gathering.{AreBehind}
use Rattle.asl_places.proofs.Gathering.{Elements}
use Rattle.asl_places.proofs.states.push_elements.Given as goal

abbrev pub invariant-loop-element : goal.invariant-loop-element
invariant-loop-element l = record {
  tokens : l.elements.0 ≡ l.outline.0;
  behind : l.fn.list.token < l.elements.1;
  inside : (j : Json) → BeginsAt l.outline.0 l.fn.list j → (rest : Items) × InItems (drop l.elements.1 l.elements.0) rest;
  walk : (j : Json) → BeginsAt l.outline.0 l.fn.list j → Elements l.outline.0 l.fn.list l.elements.1 l.fn.machines.items l.machines.items;
  later : (before : ℕ) → before ≤ l.fn.list.token → AreBehind l.outline.0 before l.fn.machines.items → AreBehind l.outline.0 before l.machines.items;
}

abbrev pub decreases-loop-element : goal.decreases-loop-element
decreases-loop-element l = length l.elements.0 - l.elements.1
