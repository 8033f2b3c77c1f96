-- The states where they stand that built states stand for.
use Rattle.std.specs.Prelude.{◌≡◌, ℕ, List, ◌∷◌, ◌++◌, map, Option, Some, option_map, string_bytes}
use Rattle.std.specs.Borrow.{Bor}
use Rattle.serde_json.specs.Data.{Members}
use Rattle.asl_model.specs.DefinitionTable as model
use Rattle.asl_model.specs.Machine.{State}
use Rattle.serde_json.specs.declared.value.Value.{Value}
use Rattle.asl_model.specs.Machine.{States}
use Rattle.asl_model.specs.Numbering.{Standing, outlined, standing_among, standing_inside}
use Rattle.asl_model.specs.StandsFor.{state_by, branches_under, processor_under}
use Rattle.asl_machine.specs.declared.building.BuiltState.{BuiltState}
use Rattle.asl_machine.specs.declared.building.Home.{Home}
use Rattle.asl_fields.specs.declared.rows.StateType.{StateType}
use Rattle.asl_fields.specs.Reading.{fields_of}
use Rattle.asl_fields.specs.Rows.{type_view}
use Rattle.asl_states.specs.Machine.{state_view}

-- the name of a state and the number of a branch
abbrev pub owner_view : Option (Bor (List ℕ) × ℕ) → Option (List ℕ × ℕ)
owner_view owner = option_map (λ o. (o.0.now, o.1)) owner

-- the state of that name where it stands
abbrev pub stands_at : Home → List ℕ → State → Standing
stands_at home name state =
    record { name = name; state = state; start = home.start.now; owner = owner_view home.owner }

-- with those of its own scopes behind it
abbrev pub standing_with : Home → List ℕ → State → List Standing
standing_with home name state = stands_at home name state ∷ standing_inside name state

-- the states of a scope where they stand
abbrev pub standing_at : Home → States → List Standing
standing_at home states = standing_among home.start.now (owner_view home.owner) states

abbrev pub built_view : BuiltState → Standing
built_view r = stands_at r.home (string_bytes r.name) (state_view r.state)

-- the state of that type that an object with those members stands for
abbrev pub state_typed : model.StateType → Members → State
state_typed t ms = state_by (Some t) ms (branches_under ms) (processor_under ms)

-- the state that a value stands for, of that type
abbrev pub state_as : StateType → Value → State
state_as t v = state_typed (type_view t) (fields_of v)

-- those states were added, in their order
pub record Adds (before after states : List Standing) : Type 0 where
  pub holds : after ≡ before ++ map outlined states

-- so among built states
abbrev pub Added : List BuiltState → List BuiltState → List Standing → Type 0
Added before after states = Adds (map built_view before) (map built_view after) states
