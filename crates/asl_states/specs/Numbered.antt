-- The numbers of the states that fields name.
use Rattle.std.specs.Prelude.{◌≡◌, ℕ, List, Some, position, bytes_eq, string_bytes}
use Rattle.asl_states.specs.Targets.{EachTarget}
use Rattle.asl_states.specs.declared.states.State.{State}
use Rattle.asl_states.specs.declared.target.Target.{Target}

-- the state's number is that of its name, where a state has it
pub record IsNumbered (names : List (List ℕ)) (target : Target) : Type 0 where
  pub found : (number : ℕ) → position (bytes_eq (string_bytes target.name)) names ≡ Some number
      → target.number ≡ number

-- so for all that a state's fields name
abbrev pub AreNumbered : List (List ℕ) → State → Type 0
AreNumbered names = EachTarget (IsNumbered names)
