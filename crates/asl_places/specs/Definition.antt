-- The states of a definition: where machines and states begin in its text (States Language, "Structure of a State
-- Machine", "Parallel State", "Map State").
use Rattle.std.specs.Prelude.{◌≡◌, ℕ, ◌≤◌, List, Option, MatchOption, codes}
use Rattle.json.specs.Token.{Token}
use Rattle.asl_places.specs.declared.outline.Spot.{Spot}
use Rattle.asl_places.specs.declared.outline.Member.{Member}
use Rattle.asl_places.specs.Standing.{IsMemberOf, IsElement}

-- where the text's own value begins: the machine that a definition is
abbrev pub text_value : Spot
text_value = record { token = 0 }

-- the state is a member of the machine's `States`
abbrev pub HasState : List Token → Spot → List ℕ → Member → Type 0
HasState tokens machine name state = (states : Member) × IsMemberOf tokens machine (codes "States") states × IsMemberOf tokens states.value name state

-- the machine is the value of that field of the state
abbrev pub IsProcessor : List Token → Spot → List ℕ → Spot → Type 0
IsProcessor tokens state field machine = (m : Member) × IsMemberOf tokens state field m × (m.value ≡ machine)

-- the machine is an element of the state's `Branches`
abbrev pub IsBranch : List Token → Spot → Spot → Type 0
IsBranch tokens state machine = (branches : Member) × IsMemberOf tokens state (codes "Branches") branches × IsElement tokens branches.value machine

-- the machine is one of the state's
pub data HasMachine (tokens : List Token) (state machine : Spot) : Type 0 where
  processor : IsProcessor tokens state (codes "ItemProcessor") machine → HasMachine tokens state machine
  iterator : IsProcessor tokens state (codes "Iterator") machine → HasMachine tokens state machine
  branch : IsBranch tokens state machine → HasMachine tokens state machine

-- the inner machine is one of a state of the machine
abbrev pub HasNestedMachine : List Token → Spot → Spot → Type 0
HasNestedMachine tokens machine inner = (name : List ℕ) × (state : Member) × HasState tokens machine name state × HasMachine tokens state.value inner

-- the state is one of the machine's, or of a machine that nests in it, at every depth
pub data HasStateInside (tokens : List Token) : Spot → List ℕ → Member → Type 0 where
  own : (machine : Spot) (name : List ℕ) (state : Member) → HasState tokens machine name state → HasStateInside tokens machine name state
  nested : (machine inner : Spot) (name : List ℕ) (state : Member) → HasNestedMachine tokens machine inner → HasStateInside tokens inner name state → HasStateInside tokens machine name state

-- of each name the first state in the text, and none where no state has that name
abbrev pub FindsStates : List Token → Spot → (List ℕ → Option Member) → Type 0
FindsStates tokens machine found =
    (name : List ℕ) → MatchOption (found name) ((m : Member) → HasStateInside tokens machine name m → ⊥)
    (λ first. HasStateInside tokens machine name first × ((m : Member) → HasStateInside tokens machine name m → first.name.token ≤ m.name.token))
