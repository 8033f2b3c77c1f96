-- What a machine holds: its states by number.
use Rattle.std.specs.Prelude.{List}
use Rattle.asl_model.specs.Names.{StateName}
use Rattle.asl_states.specs.declared.states.State.{State}
use Rattle.asl_states.specs.declared.states.Scope.{Scope}

-- the name of each state, the state itself with the numbers of those that its fields name, and where it stands
pub record Held : Type 0 where
  pub names : List StateName
  pub states : List State
  pub placements : List Scope
