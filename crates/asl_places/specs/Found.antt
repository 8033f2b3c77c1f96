-- What is found in the tokens of a text. A value stands by the number of its first token.
use Rattle.std.specs.Prelude.{◌≡◌, ℕ, ◌+◌, List, Option, Some, option_map, drop, slice_get}
use Rattle.json.specs.Token.{Token, key}
use Rattle.json.specs.Json.{Json}
use Rattle.json.specs.Find.{BeginsWith, Finds}
use Rattle.asl_places.specs.declared.outline.Spot.{Spot}
use Rattle.asl_places.specs.declared.outline.Member.{Member}

-- the value begins at the spot
abbrev pub BeginsAt : List Token → Spot → Json → Type 0
BeginsAt tokens spot j = BeginsWith (drop spot.token tokens) j

-- the spot is where the value begins; there is none where there is no value
abbrev pub FindsAt : List Token → Option Spot → Option Json → Type 0
FindsAt tokens spot j = Finds (option_map (λ s. drop s.token tokens) spot) j

-- the member has that name
pub record IsNamed (tokens : List Token) (member : Member) (name : List ℕ) : Type 0 where
  pub name_is : slice_get tokens member.name.token ≡ Some (key name)
  pub before_value : member.value.token ≡ member.name.token + 1
