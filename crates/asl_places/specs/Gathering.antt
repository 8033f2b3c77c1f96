-- What the steps of a reading of states add. No public clause cites this module.
use Rattle.std.specs.Prelude.{◌≡◌, ◌⊎◌, ◌↔◌, ℕ, ◌<◌, ◌≤◌, List, length, Option, Some, MatchOption, IfSome, All, Contains}
use Rattle.json.specs.Token.{Token}
use Rattle.asl_places.specs.declared.outline.Spot.{Spot}
use Rattle.asl_places.specs.declared.outline.Member.{Member}
use Rattle.asl_places.specs.Standing.{IsMemberOf}
use Rattle.asl_places.specs.Definition.{HasMachine}

-- that member is found under the name, or one that stands further in front
abbrev pub FindsFirst : (List ℕ → Option Member) → List ℕ → Member → Type 0
FindsFirst found name m = MatchOption (found name) ⊥ (λ first. first.name.token ≤ m.name.token)

-- what was found before and those members are found, and nothing else
pub record Adds (old new : List ℕ → Option Member) (are : List ℕ → Member → Type 0) : Type 0 where
  pub only : (name : List ℕ) → IfSome (new name) (λ m. (old name ≡ Some m) ⊎ are name m)
  pub kept : (name : List ℕ) → IfSome (old name) (λ m. FindsFirst new name m)
  pub added : (name : List ℕ) (m : Member) → are name m → FindsFirst new name m

-- the machine is one of a member of the object
abbrev pub HasMachineUnder : List Token → Spot → Spot → Type 0
HasMachineUnder tokens object machine = (name : List ℕ) × (m : Member) × IsMemberOf tokens object name m × HasMachine tokens m.value machine

-- the list has those spots, and nothing else
abbrev pub Lists : List Spot → (Spot → Type 0) → Type 0
Lists spots are = (s : Spot) → Contains spots s ↔ are s

-- the new list has what the old one had and those spots, and nothing else
abbrev pub Puts : List Spot → List Spot → (Spot → Type 0) → Type 0
Puts old new are = (s : Spot) → Contains new s ↔ (Contains old s ⊎ are s)

-- each of the spots stands in the text, behind that token
abbrev pub AreBehind : List Token → ℕ → List Spot → Type 0
AreBehind tokens before spots = All (λ s. (before < s.token) × (s.token < length tokens)) spots
