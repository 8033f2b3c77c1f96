-- Members by name.
use Rattle.std.specs.Prelude.{List, ℕ, Option, Some, None, if◌then◌else◌, nat_lt}
use Rattle.std.specs.Borrow.{Bor}
use Rattle.std.specs.Ordering.{nat_cmp}
use Rattle.std.specs.Cmp.Lexicographic.{slice_cmp}
use Rattle.std.specs.BTreeMap.{BTreeMap, get_by}
use Rattle.asl_places.specs.declared.outline.Member.{Member}
use Rattle.asl_places.specs.declared.states.States.{States}

-- the member of that name in a map
abbrev pub named_in : BTreeMap (Bor (List ℕ)) Member → List ℕ → Option Member
named_in names name = get_by (λ k. slice_cmp nat_cmp name k.now) names

-- the state of that name
abbrev pub state_named : States → List ℕ → Option Member
state_named states name = named_in states.names name

-- of two members the one that stands first in the text
abbrev pub first_of : Option Member → Member → Member
first_of None m = m
first_of (Some other) m = if nat_lt other.name.token m.name.token then other else m
