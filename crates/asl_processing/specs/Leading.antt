-- Where the numbers of the states that fields name lead to the states of their names.
use Rattle.std.specs.Prelude.{◌≡◌, ℕ, List}
use Rattle.asl_states.specs.Machine.{target_name}
use Rattle.asl_states.specs.Targets.{EachTarget}
use Rattle.asl_states.specs.declared.states.State.{State}
use Rattle.asl_states.specs.declared.target.Target.{Target}
use Rattle.asl_processing.specs.Names.{name_in}

-- the state of the target's number has its name
pub record Leads (names : List (List ℕ)) (target : Target) : Type 0 where
  pub named : name_in names target.number ≡ target_name target

-- so for all that a state's fields name
abbrev pub LeadsOn : List (List ℕ) → State → Type 0
LeadsOn names = EachTarget (Leads names)
