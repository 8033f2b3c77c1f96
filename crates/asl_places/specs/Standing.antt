-- Where the members of an object and the elements of a list stand in the tokens of a text.
use Rattle.std.specs.Prelude.{◌≡◌, ◌≢◌, ℕ, ◌+◌, ◌≤◌, List, Option, Some, MatchOption, drop, slice_get}
use Rattle.json.specs.Token.{Token, begin_object, begin_array, key}
use Rattle.json.specs.Find.{HasValue}
use Rattle.json.specs.Tape.{Passes}
use Rattle.asl_places.specs.declared.outline.Spot.{Spot}
use Rattle.asl_places.specs.declared.outline.Member.{Member}
use Rattle.asl_places.specs.Found.{IsNamed}

-- one step after the other leads from the first number to the last
pub data Leads (step : ℕ → ℕ → Type 0) : ℕ → ℕ → Type 0 where
  here : (at : ℕ) → Leads step at at
  on : (from next at : ℕ) → step from next → Leads step next at → Leads step from at

-- a member begins at the one number, and what follows it at the other
abbrev pub PassesMember : List Token → ℕ → ℕ → Type 0
PassesMember tokens at after = (name : List ℕ) × (slice_get tokens at ≡ Some (key name)) × Passes tokens (at + 1) after

-- the member is one of the object's, of that name
pub record IsMember (tokens : List Token) (object : Spot) (name : List ℕ) (member : Member) : Type 0 where
  pub opens : slice_get tokens object.token ≡ Some begin_object
  pub leads : Leads (PassesMember tokens) (object.token + 1) member.name.token
  pub named : IsNamed tokens member name
  pub begins : HasValue (drop member.value.token tokens)

-- the member is the object's of that name: the last one, where the name is repeated
pub record IsMemberOf (tokens : List Token) (object : Spot) (name : List ℕ) (member : Member) : Type 0 where
  pub stands : IsMember tokens object name member
  pub last : (other : Member) → IsMember tokens object name other → other.name.token ≤ member.name.token

-- the object's member of that name, and none where it has none
abbrev pub FindsMember : List Token → Spot → List ℕ → Option Member → Type 0
FindsMember tokens object name found = MatchOption found ((m : Member) → IsMemberOf tokens object name m → ⊥) (IsMemberOf tokens object name)

-- an element of the list begins at the spot
pub record IsElement (tokens : List Token) (list element : Spot) : Type 0 where
  pub opens : slice_get tokens list.token ≡ Some begin_array
  pub leads : Leads (Passes tokens) (list.token + 1) element.token
  pub begins : HasValue (drop element.token tokens)

-- ---- going over them

-- what stands behind the bracket that opens the value at the spot, where that bracket opens it
abbrev pub Opens : List Token → Token → Spot → Option ℕ → Type 0
Opens tokens bracket spot first = MatchOption first (slice_get tokens spot.token ≢ Some bracket) (λ at. (at ≡ spot.token + 1) × (slice_get tokens spot.token ≡ Some bracket))

-- no member begins at the number
abbrev pub NoMemberAt : List Token → ℕ → Type 0
NoMemberAt tokens at = (name : List ℕ) → slice_get tokens at ≡ Some (key name) → HasValue (drop (at + 1) tokens) → ⊥

-- the member that begins at the one number, where one does, with what follows it at the other
abbrev pub StepsOverMember : List Token → ℕ → Option Member → ℕ → Type 0
StepsOverMember tokens at found after = MatchOption found (NoMemberAt tokens at) (λ m. (m.name.token ≡ at) × (HasValue (drop m.value.token tokens) → Passes tokens m.value.token after))

-- so an element
abbrev pub StepsOverElement : List Token → ℕ → Option Spot → ℕ → Type 0
StepsOverElement tokens at found after = MatchOption found (HasValue (drop at tokens) → ⊥) (λ s. (s.token ≡ at) × (HasValue (drop at tokens) → Passes tokens at after))
