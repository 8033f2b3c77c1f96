-- What a checker may tell: every rule of a certificate that is broken, as computed lists (the profile's own). A
-- finding stands where it is in the list of all; which one of a state a checker tells isn't said here.
use Rattle.std.specs.Prelude.{ℕ, suc, List, [], ◌∷◌, ◌++◌}
use Rattle.std.specs.Prelude.{Option, Some, None, Contains, codes}
use Rattle.asl_model.specs.Names.{StateName}
use Rattle.asl_model.specs.Machine.{Settings, Scope, ScopeOf, States, NoStates, AndState, State}
use Rattle.asl_model.specs.Machine.{StateOf, Kind, Pass, Task, Choice, Wait, Succeed, Fail, Parallel}
use Rattle.asl_model.specs.Machine.{Map, Scopes, NoScopes, AndScope, start_of, names_state, names_task}
use Rattle.asl_model.specs.Shape.{Shape}
use Rattle.asl_model.specs.Certificate.{TaskShapes, Declared, StateShapes, Certificate, under}
use Rattle.asl_model.specs.Certificate.{certified, branch_end, item_end, gives_of}
use Rattle.asl_model.specs.Edges.{breaches_along, destination_shapes, walk}
pub use Rattle.asl_model.specs.Breaches.{FindingFault, NotCertified, NotAState, TaskUndeclared, TaskUnknown, StartInput}
pub use Rattle.asl_model.specs.Breaches.{PathMayBeMissing, WrongKind, ResultMayNotFit, IntrinsicMayFail, NoDefault}
pub use Rattle.asl_model.specs.Breaches.{PayloadNotTaken, OutputNotCertified, NextInput, ScopeOutput, BranchInput, CatchInput}
pub use Rattle.asl_model.specs.Breaches.{has_example, Breach, Finding, found_at, plain_breach, breach_unless, breach_shown}
pub use Rattle.asl_model.specs.Breaches.{breach_unless_sub, missing_breach, breach_of, has_form, is_certified, entry_breaches}
pub use Rattle.asl_model.specs.Breaches.{input_of_entry, input_to_compare, Surroundings, surrounded_by, effective_flow}
pub use Rattle.asl_model.specs.Breaches.{as_first_elements, element_shape, item_flow, at_each_place, map_result, elements_of}
pub use Rattle.asl_model.specs.Breaches.{array_parts, error_output_shape, error_placed_shape}

-- The rules on what flows through a state that has an entry: those that are broken along the walk through it. There are
-- none where its certified input isn't inhabited. A rule is passed over only where another broken one leaves it without a
-- shape to look at.
abbrev pub flow_breaches : Surroundings → Settings → Kind → List Breach
flow_breaches around settings kind = breaches_along (destination_shapes around)
    (walk (gives_of around.declared around.name) settings kind around.entry)

-- so of a state by what is certified of it: none where it has no entry
abbrev pub where_certified : (StateShapes → List Breach) → Option StateShapes → List Breach
where_certified of_entry None = []
where_certified of_entry (Some entry) = of_entry entry

-- every rule that is broken at a state, by its name, in a scope with that shape of its end
abbrev pub state_breaches : Scope → Declared → Certificate → Option Shape → StateName → Settings → Kind → List Breach
state_breaches machine declared certificate end n settings kind =
    entry_breaches kind (certified certificate n) (under n declared.tasks)
    ++ where_certified (λ entry. flow_breaches
    (surrounded_by declared (input_to_compare machine certificate) end n entry) settings kind) (certified certificate n)

-- Machines

abbrev mutual
  -- every rule that is broken at a state of the scope, or of one inside it
  pub scope_findings : Scope → Scope → Declared → Certificate → Option Shape → List Finding
  scope_findings (ScopeOf start held) machine declared certificate end =
      states_findings held machine declared certificate end

  -- so for each of the states
  pub states_findings : States → Scope → Declared → Certificate → Option Shape → List Finding
  states_findings NoStates machine declared certificate end = []
  states_findings (AndState n state others) machine declared certificate end =
      state_findings state machine declared certificate end n ++ states_findings others machine declared certificate end

  -- at a state of that name, and in its own scopes
  pub state_findings : State → Scope → Declared → Certificate → Option Shape → StateName → List Finding
  state_findings (StateOf settings kind) machine declared certificate end n =
      found_at n (state_breaches machine declared certificate end n settings kind)
      ++ children_findings kind machine declared certificate n

  -- in the scopes of a state of that name: a Parallel's branches, a Map's processor
  pub children_findings : Kind → Scope → Declared → Certificate → StateName → List Finding
  children_findings (Pass result) machine declared certificate n = []
  children_findings (Task resource) machine declared certificate n = []
  children_findings (Choice rules default) machine declared certificate n = []
  children_findings (Wait delay) machine declared certificate n = []
  children_findings Succeed machine declared certificate n = []
  children_findings (Fail error cause) machine declared certificate n = []
  children_findings (Parallel branches) machine declared certificate n =
      branches_findings branches machine declared certificate n 0
  children_findings (Map items selector processor) machine declared certificate n =
      scope_findings processor machine declared certificate (item_end (certified certificate n))

  -- from the branch of that number on
  pub branches_findings : Scopes → Scope → Declared → Certificate → StateName → ℕ → List Finding
  branches_findings NoScopes machine declared certificate n i = []
  branches_findings (AndScope scope others) machine declared certificate n i =
      scope_findings scope machine declared certificate (branch_end i (certified certificate n))
      ++ branches_findings others machine declared certificate n (suc i)

-- the entries' names that no state has
abbrev pub unknown_entries : Scope → List (StateName × StateShapes) → List Finding
unknown_entries machine [] = []
unknown_entries machine (entry ∷ entries) =
    found_at entry.0 (breach_unless (names_state machine entry.0) (codes "states") NotAState)
    ++ unknown_entries machine entries

-- the declared tasks' names that no Task state has
abbrev pub unknown_tasks : Scope → List (StateName × TaskShapes) → List Finding
unknown_tasks machine [] = []
unknown_tasks machine (task ∷ tasks) =
    found_at task.0 (breach_unless (names_task machine task.0) (codes "tasks") TaskUnknown)
    ++ unknown_tasks machine tasks

-- the declared input, compared with that of the machine's start state
abbrev pub start_findings : Scope → Declared → Certificate → List Finding
start_findings machine declared certificate =
    found_at (start_of machine) (breach_unless_sub (codes "StartAt") StartInput declared.input
    (input_to_compare machine certificate (start_of machine)))

-- every rule that is broken
abbrev pub findings : Scope → Declared → Certificate → List Finding
findings machine declared certificate =
    unknown_entries machine certificate.states
    ++ (unknown_tasks machine declared.tasks
    ++ (start_findings machine declared certificate
    ++ scope_findings machine machine declared certificate (Some certificate.output)))

-- the rule with the finding's fault is broken at its state and field
abbrev pub Stands : Scope → Declared → Certificate → Finding → Type 0
Stands machine declared certificate finding = Contains (findings machine declared certificate) finding
