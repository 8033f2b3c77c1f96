-- The states of a machine in one list. A state's number is its position in it, counted from 0: the states of a scope in
-- their order, each followed by those of its own scopes, depth first. The numbers are the profile's own: the standard
-- knows states by their names alone.
use Rattle.std.specs.Prelude.{ℕ, suc, List, [], ◌∷◌, ◌++◌, map, IsTrue, Option}
use Rattle.std.specs.Prelude.{Some, None, option_map, position, bytes_eq}
use Rattle.std.specs.Option.{unwrap_or}
use Rattle.asl_model.specs.Names.{StateName}
pub use Rattle.asl_model.specs.Machine.{IsScopeOf, own_scope, scope_of_child, HasNamed, targets_by, targets_of}
use Rattle.asl_model.specs.Machine.{Scope, ScopeOf, States, NoStates, AndState, State, StateOf}
use Rattle.asl_model.specs.Machine.{Kind, Pass, Task, Choice, Wait, Succeed, Fail, Parallel, Map}
use Rattle.asl_model.specs.Machine.{Scopes, NoScopes, AndScope, start_of, LeadsInside}
use Rattle.asl_model.specs.ShapeSpelling.{are_distinct}
use Rattle.asl_model.specs.StandsFor.{all_names}

-- a state where it stands
pub record Standing : Type 0 where
  pub name : StateName
  pub state : State
  -- the name of its scope's start state
  pub start : StateName
  -- the name of the state that its scope belongs to and the number of the branch, counted from 0 (0 for a Map's
  -- processor); None: the machine's own scope
  pub owner : Option (StateName × ℕ)

abbrev mutual
  -- the states of a scope, those of nested scopes included
  pub standing_in : Option (StateName × ℕ) → Scope → List Standing
  standing_in owner (ScopeOf start held) = standing_among start owner held

  -- so for the states of a scope with that start
  pub standing_among : StateName → Option (StateName × ℕ) → States → List Standing
  standing_among start owner NoStates = []
  standing_among start owner (AndState n state others) =
      record { name = n; state = state; start = start; owner = owner }
      ∷ (standing_inside n state ++ standing_among start owner others)

  -- in the scopes of the state of that name
  pub standing_inside : StateName → State → List Standing
  standing_inside n (StateOf settings kind) = standing_by n kind

  -- so by its type
  pub standing_by : StateName → Kind → List Standing
  standing_by n (Pass result) = []
  standing_by n (Task resource) = []
  standing_by n (Choice rules default) = []
  standing_by n (Wait delay) = []
  standing_by n Succeed = []
  standing_by n (Fail error cause) = []
  standing_by n (Parallel branches) = standing_each n 0 branches
  standing_by n (Map items selector processor) = standing_in (Some (n, 0)) processor

  -- in the branches, which are numbered from i on
  pub standing_each : StateName → ℕ → Scopes → List Standing
  standing_each n i NoScopes = []
  standing_each n i (AndScope scope others) = standing_in (Some (n, i)) scope ++ standing_each n (suc i) others

-- all states of a machine, by their numbers
abbrev pub standing : Scope → List Standing
standing machine = standing_in None machine

-- the number of the state of that name
abbrev pub state_number : List Standing → StateName → Option ℕ
state_number states n = position (bytes_eq n) (map (λ s. s.name) states)

-- a scope without its states: its start alone
abbrev pub scope_outline : Scope → Scope
scope_outline scope = ScopeOf (start_of scope) NoStates

-- the branches without their states
abbrev pub scopes_outline : Scopes → Scopes
scopes_outline NoScopes = NoScopes
scopes_outline (AndScope scope others) = AndScope (scope_outline scope) (scopes_outline others)

-- the type of a state without the states of its scopes
abbrev pub kind_outline : Kind → Kind
kind_outline (Pass result) = Pass result
kind_outline (Task resource) = Task resource
kind_outline (Choice rules default) = Choice rules default
kind_outline (Wait delay) = Wait delay
kind_outline Succeed = Succeed
kind_outline (Fail error cause) = Fail error cause
kind_outline (Parallel branches) = Parallel (scopes_outline branches)
kind_outline (Map items selector processor) = Map items selector (scope_outline processor)

-- a state without the states of its scopes
abbrev pub outline : State → State
outline (StateOf settings kind) = StateOf settings (kind_outline kind)

-- a state where it stands, without the states of its scopes
abbrev pub outlined : Standing → Standing
outlined s = record { name = s.name; state = outline s.state; start = s.start; owner = s.owner }

-- where a state stands, by numbers: its scope's start state, and the state that the scope belongs to with the number of
-- the branch
pub record Placement : Type 0 where
  pub start : ℕ
  pub owner : Option (ℕ × ℕ)

-- the number of the state of that name; 0 where there is none, which no machine that stands for a definition asks for
abbrev pub number_or_0 : List Standing → StateName → ℕ
number_or_0 states n = unwrap_or (state_number states n) 0

-- where a state among those stands, by their numbers
abbrev pub placement_of : List Standing → Standing → Placement
placement_of states s =
    record { start = number_or_0 states s.start; owner = option_map (λ o. (number_or_0 states o.0, o.1)) s.owner }

-- A machine as one table of its states: by number the name of each, the state itself, and where it stands.
pub record Table : Type 0 where
  pub names : List StateName
  pub states : List State
  pub placements : List Placement

-- the table of those states
abbrev pub table_among : List Standing → Table
table_among states =
    record {
      names = map (λ s. s.name) states;
      states = map (λ s. s.state) states;
      placements = map (placement_of states) states;
    }

-- the table of a machine: each state without the states of its scopes, which have numbers of their own
abbrev pub table_of : Scope → Table
table_of machine = table_among (map outlined (standing machine))

-- A machine is well named: no name stands twice, and its names lead inside its scopes.
pub record IsWellNamed (machine : Scope) : Type 0 where
  pub distinct : IsTrue (are_distinct (all_names machine))
  pub leads : LeadsInside machine
