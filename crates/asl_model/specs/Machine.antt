-- Machines: nested scopes of states (States Language, "Structure of a State Machine" and "State Types"). A machine
-- holds each field of its states, retriers and catchers, defaults filled in: also those that no run and no finding
-- looks at, which are comments, `MaxConcurrency` (the order of events is free) and all that is time alone. It leaves
-- out `QueryLanguage`, which is always `JSONPath`, the `Comment` of a choice rule, and of the machine itself, of
-- branches and of processors all but `StartAt` and `States`: `Comment`, `Version`, `TimeoutSeconds`, `ProcessorConfig`.
use Rattle.std.specs.Prelude.{◌≡◌, ◌<◌, ℕ, zero, suc, List, [], ◌++◌, map, Contains, Bool, true, false, ◌&&◌, ◌||◌}
use Rattle.std.specs.Prelude.{IsTrue, Option, Some, None, is_some, option_to_list, bytes_eq, if◌then◌else◌}
use Rattle.serde_json.specs.Data.{Num}
use Rattle.asl_model.specs.Names.{StateName, ErrorName, Bytes}
use Rattle.asl_model.specs.Tree.{Tree}
use Rattle.asl_model.specs.Path.{Segment}
use Rattle.asl_model.specs.Template.{Template}
use Rattle.asl_model.specs.Test.{Rule}

-- an element of `Retry`: the error names that it takes, how often it retries within one execution of the state, and how
-- long it waits before each retry
pub record Retrier : Type 0 where
  pub error_equals : List ErrorName
  -- 1 where it is absent
  pub interval_seconds : ℕ
  -- 3 where it is absent
  pub max_attempts : ℕ
  -- whole or a float, as it is written; the float 2.0 where it is absent
  pub backoff_rate : Num
  -- None: not given
  pub max_delay_seconds : Option ℕ
  -- `NONE` where it is absent
  pub jitter_strategy : Bytes
  -- None: not given
  pub comment : Option Bytes

-- an element of `Catch`: the error names that it takes, where the error output is placed (None: `null`), and the state
-- that follows
pub record Catcher : Type 0 where
  pub error_equals : List ErrorName
  pub result_path : Option (List Segment)
  pub next : StateName
  -- None: not given
  pub comment : Option Bytes

-- what states of several types have; a state whose type lacks a field has here the value of one that is absent
pub record Settings : Type 0 where
  -- None: `null`
  pub input_path : Option (List Segment)
  -- None: not given
  pub parameters : Option Template
  -- None: not given
  pub result_selector : Option Template
  -- None: `null`
  pub result_path : Option (List Segment)
  -- None: `null`
  pub output_path : Option (List Segment)
  -- None: `"End": true`, and so for types that have no `Next`
  pub next : Option StateName
  pub retriers : List Retrier
  pub catchers : List Catcher
  -- of a Task; None: not given (the default of 60 that the standard gives isn't filled in, since services differ)
  pub timeout_seconds : Option ℕ
  -- of a Task; None: not given
  pub heartbeat_seconds : Option ℕ
  -- of a Map; 0, which sets no bound, where it is absent
  pub max_concurrency : ℕ
  -- None: not given
  pub comment : Option Bytes

-- what a Wait waits for
pub data Delay : Type 0 where
  Seconds : ℕ → Delay
  SecondsPath : List Segment → Delay
  Timestamp : Bytes → Delay
  TimestampPath : List Segment → Delay

mutual
  -- the machine, a branch of a Parallel, or the processor of a Map: the name of the start state, and the states
  pub data Scope : Type 0 where
    ScopeOf : StateName → States → Scope

  -- the states of a scope, each with its name
  pub data States : Type 0 where
    NoStates : States
    AndState : StateName → State → States → States

  -- a state: its settings, and what its type adds
  pub data State : Type 0 where
    StateOf : Settings → Kind → State

  -- the eight types, each with the fields that it alone has
  pub data Kind : Type 0 where
    -- `Result`, where it is given
    Pass : Option Tree → Kind
    -- `Resource`
    Task : Bytes → Kind
    -- `Choices`, and `Default` where it is given
    Choice : List Rule → Option StateName → Kind
    Wait : Delay → Kind
    Succeed : Kind
    -- `Error` and `Cause`
    Fail : ErrorName → Bytes → Kind
    -- `Branches`
    Parallel : Scopes → Kind
    -- `ItemsPath`, `ItemSelector` where it is given, and the scope of `ItemProcessor`
    Map : List Segment → Option Template → Scope → Kind

  -- the branches of a Parallel, in order
  pub data Scopes : Type 0 where
    NoScopes : Scopes
    AndScope : Scope → Scopes → Scopes

-- the settings of a state
abbrev pub settings_of : State → Settings
settings_of (StateOf settings kind) = settings

-- what its type adds
abbrev pub kind_of : State → Kind
kind_of (StateOf settings kind) = kind

-- the name of the scope's start state
abbrev pub start_of : Scope → StateName
start_of (ScopeOf start held) = start

-- the states of a scope
abbrev pub states_of : Scope → States
states_of (ScopeOf start held) = held

-- the first of the states that has the name
abbrev pub state_among : StateName → States → Option State
state_among n NoStates = None
state_among n (AndState m state others) = if bytes_eq m n then Some state else state_among n others

-- the scope's state of that name
abbrev pub state_named : StateName → Scope → Option State
state_named n scope = state_among n (states_of scope)

-- the scope without a state, which stands where a child is asked for that isn't there
abbrev pub empty_scope : Scope
empty_scope = ScopeOf [] NoStates

-- the scope at a position, counted from 0
abbrev pub scope_at : ℕ → Scopes → Scope
scope_at i NoScopes = empty_scope
scope_at zero (AndScope scope others) = scope
scope_at (suc i) (AndScope scope others) = scope_at i others

-- the scope in which a state's child of that number stands: a branch of a Parallel, or the processor of a Map
abbrev pub child_scope : Kind → ℕ → Scope
child_scope (Pass result) i = empty_scope
child_scope (Task resource) i = empty_scope
child_scope (Choice rules default) i = empty_scope
child_scope (Wait delay) i = empty_scope
child_scope Succeed i = empty_scope
child_scope (Fail error cause) i = empty_scope
child_scope (Parallel branches) i = scope_at i branches
child_scope (Map items selector processor) i = processor

-- a Task
abbrev pub is_task : Kind → Bool
is_task (Pass result) = false
is_task (Task resource) = true
is_task (Choice rules default) = false
is_task (Wait delay) = false
is_task Succeed = false
is_task (Fail error cause) = false
is_task (Parallel branches) = false
is_task (Map items selector processor) = false

abbrev mutual
  -- some state of the scope, those of nested scopes included, passes the test on its name and itself
  pub some_state : (StateName → State → Bool) → Scope → Bool
  some_state test (ScopeOf start held) = some_of_states test held

  -- so for a list of states
  pub some_of_states : (StateName → State → Bool) → States → Bool
  some_of_states test NoStates = false
  some_of_states test (AndState n state others) = test n state || (some_inside test state || some_of_states test others)

  -- some state in the scopes of a state passes it
  pub some_inside : (StateName → State → Bool) → State → Bool
  some_inside test (StateOf settings kind) = some_in_kind test kind

  -- so by the state's type
  pub some_in_kind : (StateName → State → Bool) → Kind → Bool
  some_in_kind test (Pass result) = false
  some_in_kind test (Task resource) = false
  some_in_kind test (Choice rules default) = false
  some_in_kind test (Wait delay) = false
  some_in_kind test Succeed = false
  some_in_kind test (Fail error cause) = false
  some_in_kind test (Parallel branches) = some_in_scopes test branches
  some_in_kind test (Map items selector processor) = some_state test processor

  -- so for the branches
  pub some_in_scopes : (StateName → State → Bool) → Scopes → Bool
  some_in_scopes test NoScopes = false
  some_in_scopes test (AndScope scope others) = some_state test scope || some_in_scopes test others

-- a state of the machine, in whatever scope, has that name
abbrev pub names_state : Scope → StateName → Bool
names_state machine n = some_state (λ m state. bytes_eq m n) machine

-- a Task of the machine, in whatever scope, has that name
abbrev pub names_task : Scope → StateName → Bool
names_task machine n = some_state (λ m state. bytes_eq m n && is_task (kind_of state)) machine

-- how many scopes there are
abbrev pub how_many : Scopes → ℕ
how_many NoScopes = 0
how_many (AndScope scope others) = suc (how_many others)

-- ---- where the names in a machine lead

-- the scopes of a machine: its own, and those of the states that are found by name in its scopes
pub data IsScopeOf (machine : Scope) : Scope → Type 0 where
  own_scope : IsScopeOf machine machine
  scope_of_child : {scope : Scope} (n : StateName) (state : State) (i : ℕ) → IsScopeOf machine scope
      → state_named n scope ≡ Some state
      → IsScopeOf machine (child_scope (kind_of state) i)

-- the scope has a state of that name
abbrev pub HasNamed : Scope → StateName → Type 0
HasNamed scope n = IsTrue (is_some (state_named n scope))

-- the names of the states that a type lets follow: those of a Choice
abbrev pub targets_by : Kind → List StateName
targets_by (Pass result) = []
targets_by (Task resource) = []
targets_by (Choice rules default) = map (λ (rule : Rule). rule.next) rules ++ option_to_list default
targets_by (Wait delay) = []
targets_by Succeed = []
targets_by (Fail error cause) = []
targets_by (Parallel branches) = []
targets_by (Map items selector processor) = []

-- the names of the states that may follow a state: by `Next`, by `Catch`, and by its type
abbrev pub targets_of : State → List StateName
targets_of (StateOf settings kind) =
    option_to_list settings.next ++ (map (λ (catcher : Catcher). catcher.next) settings.catchers ++ targets_by kind)

-- The names in a machine lead inside its scopes: each scope's start is one of its own states, and what follows a state
-- is a state of the same scope.
pub record LeadsInside (machine : Scope) : Type 0 where
  pub start : HasNamed machine (start_of machine)
  pub branch_starts : (scope : Scope) → IsScopeOf machine scope
      → (n : StateName) (settings : Settings) (branches : Scopes) → state_named n scope ≡ Some
      (StateOf settings (Parallel branches))
      → (i : ℕ) → i < how_many branches → HasNamed (scope_at i branches) (start_of (scope_at i branches))
  pub processor_starts : (scope : Scope) → IsScopeOf machine scope
      → (n : StateName) (settings : Settings) (items : List Segment) (selector : Option Template) (processor : Scope)
      → state_named n scope ≡ Some (StateOf settings (Map items selector processor)) → HasNamed processor
      (start_of processor)
  pub targets : (scope : Scope) → IsScopeOf machine scope → (n : StateName) (state : State)
      → state_named n scope ≡ Some state
      → (m : StateName) → Contains (targets_of state) m → HasNamed scope m
