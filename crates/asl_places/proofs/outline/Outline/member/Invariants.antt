use Rattle.std.proofs.Common.{◌≡◌, ◌<◌, ◌-◌, length, drop, Option, option_map}
use Rattle.std.specs.Prelude.{IfSome}
use Rattle.json.specs.Json.{Json, Members}
use Rattle.json.specs.Find.{InMembers, later_or, get_member, get}
use Rattle.asl_places.specs.Found.{BeginsAt, FindsAt, IsNamed}
use Rattle.asl_places.proofs.Walks.{Covers, IsLater, Stands, Walked}
use Rattle.asl_places.proofs.outline.Outline.member.Given as goal

abbrev pub invariant-loop-other : goal.invariant-loop-other
invariant-loop-other l = record {
  tokens : l.members.0 ≡ l.self.0;
  search : (j : Json) → BeginsAt l.self.0 l.fn.object j → (rest : Members) × (earlier : Option Json) × InMembers (drop l.members.1 l.members.0) rest × FindsAt l.self.0 (option_map (λ m. m.value) l.found) earlier × (get l.name j ≡ later_or (get_member l.name rest) earlier);
  walk : (j : Json) → BeginsAt l.self.0 l.fn.object j → Walked l.self.0 l.fn.object l.members.1 × Stands l.self.0 l.fn.object l.members.1 l.name l.found × Covers l.self.0 l.fn.object l.members.1 (λ name m. name ≡ l.name → IsLater l.found m);
  inside : l.fn.object.token < l.members.1;
  later : IfSome l.found (λ m. (l.fn.object.token < m.value.token) × (m.value.token < length l.self.0));
  named : IfSome l.found (λ m. IsNamed l.self.0 m l.name);
}

abbrev pub decreases-loop-other : goal.decreases-loop-other
decreases-loop-other l = length l.members.0 - l.members.1
