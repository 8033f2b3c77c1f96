use Rattle.std.proofs.Common.{◌≡◌, ◌<◌, ◌-◌, length, drop}
use Rattle.json.specs.Json.{Json, Members}
use Rattle.json.specs.Find.{InMembers}
use Rattle.asl_places.specs.Found.{BeginsAt}
use Rattle.asl_places.specs.Named.{state_named}
use Rattle.asl_places.specs.Gathering.{AreBehind}
use Rattle.asl_places.proofs.Machines.{Scope}
use Rattle.asl_places.proofs.states.States.add_members.Given as goal

abbrev pub invariant-loop-name : goal.invariant-loop-name
invariant-loop-name l = record {
  tokens : l.members.0 ≡ l.outline.0;
  behind : l.fn.object.token < l.members.1;
  inside : (j : Json) → BeginsAt l.outline.0 l.fn.object j → (rest : Members) × InMembers (drop l.members.1 l.members.0) rest;
  walk : (j : Json) → BeginsAt l.outline.0 l.fn.object j → Scope l.outline.0 l.fn.object l.members.1 (state_named l.fn.self) (state_named l.self) l.inner.items;
  later : AreBehind l.outline.0 l.fn.object.token l.inner.items;
}

abbrev pub decreases-loop-name : goal.decreases-loop-name
decreases-loop-name l = length l.members.0 - l.members.1
