use Rattle.std.proofs.Common.{◌≡◌, ◌-◌, ℕ, List, length, drop}
use Rattle.json.specs.Json.{Json, Members}
use Rattle.json.specs.Find.{InMembers}
use Rattle.asl_places.specs.Found.{BeginsAt}
use Rattle.asl_places.specs.Named.{named_in}
use Rattle.asl_places.proofs.Walks.{Covers, IsLater, Stands, Walked}
use Rattle.asl_places.proofs.states.members_by_name.Given as goal

abbrev pub invariant-loop-name : goal.invariant-loop-name
invariant-loop-name l = record {
  tokens : l.members.0 ≡ l.outline.0;
  inside : (j : Json) → BeginsAt l.outline.0 l.fn.object j → (rest : Members) × InMembers (drop l.members.1 l.members.0) rest;
  walk : (j : Json) → BeginsAt l.outline.0 l.fn.object j → Walked l.outline.0 l.fn.object l.members.1 × ((name : List ℕ) → Stands l.outline.0 l.fn.object l.members.1 name (named_in l.names name)) × Covers l.outline.0 l.fn.object l.members.1 (λ name m. IsLater (named_in l.names name) m);
}

abbrev pub decreases-loop-name : goal.decreases-loop-name
decreases-loop-name l = length l.members.0 - l.members.1
