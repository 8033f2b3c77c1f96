-- Runs: activities, events, entries, steps (States Language, "State Types", "Errors", "Retrying after error" and
-- "Fallback States"). The profile chooses: an event is one move of one activity or one answer to one waiting task;
-- events of different branches and iterations come in any order; waiting takes no time; an error name that isn't
-- `States.ALL` matches itself alone.
use Rattle.std.specs.Prelude.{◌≡◌, ◌≢◌, ◌⊎◌, ◌<◌, ◌≤◌, ℕ, zero, suc, List, [], ◌∷◌, ◌++◌, map, Bool, false, ◌||◌}
use Rattle.std.specs.Prelude.{nat_lt, bytes_eq, if◌then◌else◌, Option, Some, None, option_and_then, Result, Ok, Err}
use Rattle.std.specs.Prelude.{codes}
use Rattle.std.specs.Option.{option_map}
use Rattle.asl_model.specs.Names.{StateName, ErrorName, Bytes, PlaceInRun, RetryCounts}
use Rattle.asl_model.specs.Tree.{Tree, Text, Array, Object, Trees, NoTrees, AndTree, NoFields, AndField}
use Rattle.asl_model.specs.Path.{Segment}
use Rattle.asl_model.specs.Placing.{placed, Places}
use Rattle.asl_model.specs.Faults.{ResultPathMatchFailure, Fault, error_name}
use Rattle.asl_model.specs.Machine.{Retrier, Catcher, Settings, Scope, State, Kind, Pass, Task, Choice}
use Rattle.asl_model.specs.Machine.{Wait, Succeed, Fail, Parallel, Map, settings_of, kind_of, start_of}
use Rattle.asl_model.specs.Machine.{state_named, child_scope, empty_scope, HasNamed}
use Rattle.asl_model.specs.Flow.{Work, Finishes, Leaves, FailsWith, Asks, Splits}
use Rattle.asl_model.specs.Flow.{Raises, at_output_path, output_of, first_move}

mutual
  -- What stands at a place. The state is named; the counts are those of its retriers, in order, within this execution
  -- of the state, and a count that isn't written is 0.
  pub data Activity : Type 0 where
    -- a state with its raw input, about to be entered
    Ready : StateName → Tree → RetryCounts → Activity
    -- a Task with its raw input, whose task was asked with a payload
    Waiting : StateName → Tree → RetryCounts → Tree → Activity
    -- a Parallel or a Map with its raw input, and its children
    Split : StateName → Tree → RetryCounts → Activities → Activity
    -- the scope has ended with an output
    Done : Tree → Activity
    -- the scope has ended with an error and a cause
    Failed : ErrorName → Bytes → Activity

  -- the children of a Split, in the order of branches or items
  pub data Activities : Type 0 where
    NoActivities : Activities
    AndActivity : Activity → Activities → Activities

-- what happens at a place: a move, or the answer of a task, with a tree or with an error and a cause
pub data Action : Type 0 where
  Move : Action
  Gives : Tree → Action
  FailsTask : ErrorName → Bytes → Action

-- an event, at a place: the numbers of the children on the way down from the machine's own activity
pub record Event : Type 0 where
  pub place : PlaceInRun
  pub action : Action

-- how a scope ends
pub data Outcome : Type 0 where
  Output : Tree → Outcome
  FailedWith : ErrorName → Bytes → Outcome

-- a line of a run's history; all but Ended have a state's name
pub data Entry : Type 0 where
  -- its raw input
  Entered : StateName → Tree → Entry
  -- the payload
  Asked : StateName → Tree → Entry
  -- its output
  Left : StateName → Tree → Entry
  -- a data-flow fault
  Raised : StateName → Fault → Entry
  -- the error and the cause that its task answered
  TaskFailed : StateName → ErrorName → Bytes → Entry
  -- the number of the child that failed, its error and its cause
  BranchFailed : StateName → ℕ → ErrorName → Bytes → Entry
  -- the retrier's number
  Retried : StateName → ℕ → Entry
  -- the catcher's number, and the state that follows
  Caught : StateName → ℕ → StateName → Entry
  Ended : Outcome → Entry

-- a step: the entries that it makes, and the activity after it
pub record Step : Type 0 where
  pub entries : List Entry
  pub after : Activity

-- the step with one more entry in front
abbrev pub entry_then : Entry → Step → Step
entry_then entry step = record { entries = entry ∷ step.entries; after = step.after }

-- the scope ends with an error and a cause
abbrev pub ends_failing : ErrorName → Bytes → Step
ends_failing error cause = record { entries = Ended (FailedWith error cause) ∷ []; after = Failed error cause }

-- an `ErrorEquals` takes the error: one of its names is the error's, or `States.ALL`
abbrev pub takes_error : ErrorName → List ErrorName → Bool
takes_error error [] = false
takes_error error (n ∷ others) = (bytes_eq n error || bytes_eq n (codes "States.ALL")) || takes_error error others

-- the count of the retrier of that number
abbrev pub count_at : ℕ → RetryCounts → ℕ
count_at i [] = 0
count_at zero (c ∷ cs) = c
count_at (suc i) (c ∷ cs) = count_at i cs

-- the counts with that one higher by one
abbrev pub one_higher : ℕ → RetryCounts → RetryCounts
one_higher zero [] = 1 ∷ []
one_higher zero (c ∷ cs) = suc c ∷ cs
one_higher (suc i) [] = 0 ∷ one_higher i []
one_higher (suc i) (c ∷ cs) = c ∷ one_higher i cs

-- The number of the retrier that retries, where the retriers are numbered from i on: the first that takes the error
-- decides, and retries while its count is below its `MaxAttempts`.
abbrev pub retrying : ℕ → List Retrier → RetryCounts → ErrorName → Option ℕ
retrying i [] counts error = None
retrying i (retrier ∷ others) counts error =
    if takes_error error retrier.error_equals
    then (if nat_lt (count_at i counts) retrier.max_attempts then Some i else None)
    else retrying (suc i) others counts error

-- the first catcher that takes the error, with its number, where the catchers are numbered from i on
abbrev pub catching : ℕ → List Catcher → ErrorName → Option (ℕ × Catcher)
catching i [] error = None
catching i (catcher ∷ others) error =
    if takes_error error catcher.error_equals then Some (i, catcher) else catching (suc i) others error

-- the object that tells an error and its cause
abbrev pub error_output : ErrorName → Bytes → Tree
error_output error cause =
    Object (AndField (codes "Cause") (Text cause) (AndField (codes "Error") (Text error) NoFields))

-- the error output placed in the raw input at the catcher's `ResultPath`; where that is null, the raw input
abbrev pub error_placed : Option (List Segment) → Tree → ErrorName → Bytes → Option Tree
error_placed None raw error cause = Some raw
error_placed (Some p) raw error cause = placed p (error_output error cause) raw

-- what a catcher hands to its next state, where the error output can be placed
abbrev pub caught_input : Catcher → Tree → ErrorName → Bytes → Option Tree
caught_input catcher raw error cause = error_placed catcher.result_path raw error cause

-- what comes of an error in a state
pub data Trouble : Type 0 where
  -- the retrier of that number retries
  Retries : ℕ → Trouble
  -- the catcher of that number hands this input to that state
  Catches : ℕ → StateName → Tree → Trouble
  -- a catcher takes the error, and its output can't be placed
  Misfits : Trouble
  -- nothing takes the error
  Escapes : Trouble

-- a catcher's number and next state, with what it hands on
abbrev pub caught_as : ℕ → StateName → Option Tree → Trouble
caught_as i next None = Misfits
caught_as i next (Some input) = Catches i next input

-- what the catcher that takes the error does, if one does
abbrev pub caught_by : Option (ℕ × Catcher) → Tree → ErrorName → Bytes → Trouble
caught_by None raw error cause = Escapes
caught_by (Some found) raw error cause = caught_as found.0 found.1.next (caught_input found.1 raw error cause)

-- a retrier that retries comes first
abbrev pub unless_retrying : Option ℕ → Trouble → Trouble
unless_retrying None otherwise = otherwise
unless_retrying (Some i) otherwise = Retries i

-- what comes of an error: a retrier that retries, else the first catcher that takes it, else the state fails
abbrev pub trouble_of : Settings → Tree → RetryCounts → ErrorName → Bytes → Trouble
trouble_of settings raw counts error cause =
    unless_retrying (retrying 0 settings.retriers counts error)
    (caught_by (catching 0 settings.catchers error) raw error cause)

-- the error's name appears in an `ErrorEquals`: as itself, or by `States.ALL`, which stands for every name
pub data AppearsIn : ErrorName → List ErrorName → Type 0 where
  appears_as_itself : {error : ErrorName} {others : List ErrorName} → AppearsIn error (error ∷ others)
  appears_by_wildcard : {error : ErrorName} {others : List ErrorName} → AppearsIn error (codes "States.ALL" ∷ others)
  appears_later : {error n : ErrorName} {others : List ErrorName} → AppearsIn error others
      → AppearsIn error (n ∷ others)

-- the retrier takes the error
abbrev pub RetrierTakes : ErrorName → Retrier → Type 0
RetrierTakes error retrier = AppearsIn error retrier.error_equals

-- the catcher takes the error
abbrev pub CatcherTakes : ErrorName → Catcher → Type 0
CatcherTakes error catcher = AppearsIn error catcher.error_equals

-- the first of a list of which something holds, and its number, counted from 0
pub data IsFirst {A : Type 0} (P : A → Type 0) : List A → ℕ → A → Type 0 where
  first_is_this : {a : A} {others : List A} → P a → IsFirst P (a ∷ others) 0 a
  first_is_later : {a b : A} {others : List A} {i : ℕ} → (P b → ⊥) → IsFirst P others i a
      → IsFirst P (b ∷ others) (suc i) a

-- it holds of none of the list
pub data HoldsOfNone {A : Type 0} (P : A → Type 0) : List A → Type 0 where
  none_is_left : HoldsOfNone P []
  nor_of_this : {b : A} {others : List A} → (P b → ⊥) → HoldsOfNone P others → HoldsOfNone P (b ∷ others)

-- an error isn't retried: no retrier takes it, or the first that does has no attempt left
pub data IsNotRetried (retriers : List Retrier) (counts : RetryCounts) (error : ErrorName) : Type 0 where
  no_retrier_takes : HoldsOfNone (RetrierTakes error) retriers → IsNotRetried retriers counts error
  no_attempt_is_left : {i : ℕ} {retrier : Retrier} → IsFirst (RetrierTakes error) retriers i retrier
      → retrier.max_attempts ≤ count_at i counts → IsNotRetried retriers counts error

-- what a catcher hands to its next state: the raw input with the error output placed at its `ResultPath`; where that
-- is null, the raw input itself
pub data HandsOn : Option (List Segment) → Tree → Tree → Tree → Type 0 where
  hands_on_raw : {raw output : Tree} → HandsOn None raw output raw
  hands_on_placed : {p : List Segment} {raw output input : Tree} → Places p output raw input
      → HandsOn (Some p) raw output input

-- What comes of an error in a state with that raw input and those counts. The first retrier that takes it retries,
-- where it has an attempt left. Otherwise the first catcher that takes it hands on what it places, or nothing can be
-- placed there; where no catcher takes it, the state fails. There is no other case.
pub data ComesTo (settings : Settings) (raw : Tree) (counts : RetryCounts) (error : ErrorName) (cause : Bytes) :
    Trouble → Type 0 where
  is_retried : {i : ℕ} {retrier : Retrier} → IsFirst (RetrierTakes error) settings.retriers i retrier
      → count_at i counts < retrier.max_attempts → ComesTo settings raw counts error cause (Retries i)
  is_caught : {i : ℕ} {catcher : Catcher} {input : Tree} → IsNotRetried settings.retriers counts error
      → IsFirst (CatcherTakes error) settings.catchers i catcher
      → HandsOn catcher.result_path raw (error_output error cause) input
      → ComesTo settings raw counts error cause (Catches i catcher.next input)
  is_no_fit : {i : ℕ} {catcher : Catcher} → IsNotRetried settings.retriers counts error
      → IsFirst (CatcherTakes error) settings.catchers i catcher
      → ((input : Tree) → HandsOn catcher.result_path raw (error_output error cause) input → ⊥)
      → ComesTo settings raw counts error cause Misfits
  is_not_caught : IsNotRetried settings.retriers counts error → HoldsOfNone (CatcherTakes error) settings.catchers
      → ComesTo settings raw counts error cause Escapes

-- the step that comes of an error in state n
abbrev pub by_trouble : StateName → Tree → RetryCounts → ErrorName → Bytes → Trouble → Step
by_trouble n raw counts error cause (Retries i) =
    record { entries = Retried n i ∷ []; after = Ready n raw (one_higher i counts) }
by_trouble n raw counts error cause (Catches i next input) =
    record { entries = Caught n i next ∷ []; after = Ready next input [] }
by_trouble n raw counts error cause Misfits =
    entry_then (Raised n (record { error = ResultPathMatchFailure; field = codes "Catch" }))
    (ends_failing (error_name ResultPathMatchFailure) (codes "Catch"))
by_trouble n raw counts error cause Escapes = ends_failing error cause

-- state n is in trouble with an error and a cause
abbrev pub troubled : StateName → Settings → Tree → RetryCounts → ErrorName → Bytes → Step
troubled n settings raw counts error cause =
    by_trouble n raw counts error cause (trouble_of settings raw counts error cause)

-- state n has met a data-flow fault: it is raised, and then in trouble with its error and, as the cause, its field
abbrev pub faulted : StateName → Settings → Tree → RetryCounts → Fault → Step
faulted n settings raw counts fault =
    entry_then (Raised n fault) (troubled n settings raw counts (error_name fault.error) fault.field)

-- state n leaves with an output, for its next state or the end of its scope
abbrev pub leaves_for : StateName → Option StateName → Tree → Step
leaves_for n None output = record { entries = Left n output ∷ Ended (Output output) ∷ []; after = Done output }
leaves_for n (Some next) output = record { entries = Left n output ∷ []; after = Ready next output [] }

-- state n leaves with an output, unless there was a fault
abbrev pub leaves_with : StateName → Settings → Tree → RetryCounts → Option StateName → Result Tree Fault → Step
leaves_with n settings raw counts next (Ok output) = leaves_for n next output
leaves_with n settings raw counts next (Err fault) = faulted n settings raw counts fault

-- state n has a result
abbrev pub finishes : StateName → Settings → Tree → RetryCounts → Tree → Step
finishes n settings raw counts result = leaves_with n settings raw counts settings.next (output_of settings raw result)

-- a child for each input, Ready at the start of its scope; the scopes are given by the child's number
abbrev pub started : (ℕ → Scope) → Trees → Activities
started scopes NoTrees = NoActivities
started scopes (AndTree input inputs) =
    AndActivity (Ready (start_of (scopes 0)) input []) (started (λ i. scopes (suc i)) inputs)

-- the step that a first move comes to
abbrev pub by_work : StateName → State → Tree → RetryCounts → Work → Step
by_work n state raw counts (Finishes result) = finishes n (settings_of state) raw counts result
by_work n state raw counts (Leaves next v) =
    leaves_with n (settings_of state) raw counts next (at_output_path (settings_of state) v)
by_work n state raw counts (FailsWith error cause) = ends_failing error cause
by_work n state raw counts (Asks payload) =
    record { entries = Asked n payload ∷ []; after = Waiting n raw counts payload }
by_work n state raw counts (Splits inputs) =
    record { entries = []; after = Split n raw counts (started (child_scope (kind_of state)) inputs) }
by_work n state raw counts (Raises fault) = faulted n (settings_of state) raw counts fault

-- state n is entered
abbrev pub enters : StateName → State → Tree → RetryCounts → Step
enters n state raw counts = entry_then (Entered n raw) (by_work n state raw counts (first_move state raw))

-- how far the children of a Split are
pub data Joining : Type 0 where
  -- all are done, with these outputs
  AllDone : Trees → Joining
  -- some failed: the least number of those, its error and its cause
  OneFailed : ℕ → ErrorName → Bytes → Joining
  StillRunning : Joining

-- a child that is done stands in front of others
abbrev pub done_before : Tree → Joining → Joining
done_before output (AllDone outputs) = AllDone (AndTree output outputs)
done_before output (OneFailed i error cause) = OneFailed i error cause
done_before output StillRunning = StillRunning

-- a child that is still running stands in front of others
abbrev pub running_before : Joining → Joining
running_before (AllDone outputs) = StillRunning
running_before (OneFailed i error cause) = OneFailed i error cause
running_before StillRunning = StillRunning

-- the child of that number stands in front of others
abbrev pub child_before : ℕ → Activity → Joining → Joining
child_before i (Ready n raw counts) others = running_before others
child_before i (Waiting n raw counts payload) others = running_before others
child_before i (Split n raw counts children) others = running_before others
child_before i (Done output) others = done_before output others
child_before i (Failed error cause) others = OneFailed i error cause

-- how far the children are, which are numbered from i on
abbrev pub joining : ℕ → Activities → Joining
joining i NoActivities = AllDone NoTrees
joining i (AndActivity child others) = child_before i child (joining (suc i) others)

-- the error of a state of which a child failed: `States.BranchFailed` for a Parallel, the child's for a Map
abbrev pub join_error : Kind → ErrorName → ErrorName
join_error (Pass result) error = error
join_error (Task resource) error = error
join_error (Choice rules default) error = error
join_error (Wait delay) error = error
join_error Succeed error = error
join_error (Fail e c) error = error
join_error (Parallel branches) error = codes "States.BranchFailed"
join_error (Map items selector processor) error = error

-- the move of a Split, where its children are far enough: they are gone then
abbrev pub joins : StateName → State → Tree → RetryCounts → Joining → Option Step
joins n state raw counts (AllDone outputs) = Some (finishes n (settings_of state) raw counts (Array outputs))
joins n state raw counts (OneFailed i error cause) =
    Some (entry_then (BranchFailed n i error cause)
    (troubled n (settings_of state) raw counts (join_error (kind_of state) error) cause))
joins n state raw counts StillRunning = None

-- what a state that is Ready does: it is entered; None where the action isn't enabled
abbrev pub moves_ready : StateName → Tree → RetryCounts → Action → State → Option Step
moves_ready n raw counts Move state = Some (enters n state raw counts)
moves_ready n raw counts (Gives answer) state = None
moves_ready n raw counts (FailsTask error cause) state = None

-- the same for a Task that waits: it takes an answer
abbrev pub moves_waiting : StateName → Tree → RetryCounts → Action → State → Option Step
moves_waiting n raw counts Move state = None
moves_waiting n raw counts (Gives answer) state = Some (finishes n (settings_of state) raw counts answer)
moves_waiting n raw counts (FailsTask error cause) state =
    Some (entry_then (TaskFailed n error cause) (troubled n (settings_of state) raw counts error cause))

-- the same for a Split: it joins
abbrev pub moves_split : StateName → Tree → RetryCounts → Activities → Action → State → Option Step
moves_split n raw counts children Move state = joins n state raw counts (joining 0 children)
moves_split n raw counts children (Gives answer) state = None
moves_split n raw counts children (FailsTask error cause) state = None

-- one step of an activity itself, which stands in a scope
abbrev pub acts : Scope → Activity → Action → Option Step
acts scope (Ready n raw counts) action = option_and_then (moves_ready n raw counts action) (state_named n scope)
acts scope (Waiting n raw counts payload) action =
    option_and_then (moves_waiting n raw counts action) (state_named n scope)
acts scope (Split n raw counts children) action =
    option_and_then (moves_split n raw counts children action) (state_named n scope)
acts scope (Done output) action = None
acts scope (Failed error cause) action = None

-- the scope in which the child of that number stands, of what a state's name stands for
abbrev pub scope_under : Option State → ℕ → Scope
scope_under None i = empty_scope
scope_under (Some state) i = child_scope (kind_of state) i

-- the scope in which the child of that number of a Split at state n stands
abbrev pub scope_below : Scope → StateName → ℕ → Scope
scope_below scope n i = scope_under (state_named n scope) i

-- the child of that number
abbrev pub child_at : ℕ → Activities → Option Activity
child_at i NoActivities = None
child_at zero (AndActivity child others) = Some child
child_at (suc i) (AndActivity child others) = child_at i others

-- what stands at a place of an activity
abbrev pub activity_at : PlaceInRun → Activity → Option Activity
activity_at [] a = Some a
activity_at (i ∷ p) (Ready n raw counts) = None
activity_at (i ∷ p) (Waiting n raw counts payload) = None
activity_at (i ∷ p) (Split n raw counts children) = option_and_then (activity_at p) (child_at i children)
activity_at (i ∷ p) (Done output) = None
activity_at (i ∷ p) (Failed error cause) = None

abbrev mutual
  -- each state that stands in an activity, at whatever depth, is a state of the scope in which it stands
  pub StandsIn : Activity → Scope → Type 0
  StandsIn (Ready n raw counts) scope = HasNamed scope n
  StandsIn (Waiting n raw counts payload) scope = HasNamed scope n
  StandsIn (Split n raw counts children) scope = HasNamed scope n × EachStandsIn children (scope_below scope n)
  StandsIn (Done output) scope = Unit {0}
  StandsIn (Failed error cause) scope = Unit {0}

  -- so for each child, in the scope of its number
  pub EachStandsIn : Activities → (ℕ → Scope) → Type 0
  EachStandsIn NoActivities scopes = Unit {0}
  EachStandsIn (AndActivity child others) scopes = StandsIn child (scopes 0) × EachStandsIn others (λ i. scopes (suc i))

-- the children with that one replaced
abbrev pub set_child : ℕ → Activity → Activities → Activities
set_child i a NoActivities = NoActivities
set_child zero a (AndActivity child others) = AndActivity a others
set_child (suc i) a (AndActivity child others) = AndActivity child (set_child i a others)

-- a step of the child of that number, as one of the whole
abbrev pub within : StateName → Tree → RetryCounts → Activities → ℕ → Step → Step
within n raw counts children i step =
    record { entries = step.entries; after = Split n raw counts (set_child i step.after children) }

-- one step at a place of an activity, which stands in a scope; None where the action isn't enabled there
abbrev pub step_at : PlaceInRun → Scope → Activity → Action → Option Step
step_at [] scope a action = acts scope a action
step_at (i ∷ p) scope (Ready n raw counts) action = None
step_at (i ∷ p) scope (Waiting n raw counts payload) action = None
step_at (i ∷ p) scope (Split n raw counts children) action =
    option_map (within n raw counts children i)
    (option_and_then (λ child. step_at p (scope_below scope n i) child action) (child_at i children))
step_at (i ∷ p) scope (Done output) action = None
step_at (i ∷ p) scope (Failed error cause) action = None

-- one step of a machine
abbrev pub step : Scope → Activity → Event → Option Step
step machine a event = step_at event.place machine a event.action

-- a turn: the activity before an event, the event, and the step that it makes, if any
pub record Turn : Type 0 where
  pub before : Activity
  pub event : Event
  pub taken : Option Step

-- the activity after a turn; an event that isn't enabled changes nothing
abbrev pub after_step : Activity → Option Step → Activity
after_step a None = a
after_step a (Some taken) = taken.after

-- the turns that the events make, one after the other, from an activity on
abbrev pub run : Scope → Activity → List Event → List Turn
run machine a [] = []
run machine a (event ∷ events) =
    let taken = step machine a event in
    record { before = a; event = event; taken = taken } ∷ run machine (after_step a taken) events

-- a run begins Ready at the start state, all counts 0
abbrev pub start : Scope → Tree → Activity
start machine input = Ready (start_of machine) input []

-- the run of a machine on an input
abbrev pub run_of : Scope → Tree → List Event → List Turn
run_of machine input events = run machine (start machine input) events

-- the entries of a step
abbrev pub entries_of : Option Step → List Entry
entries_of None = []
entries_of (Some taken) = taken.entries

-- the history that the turns tell: each entry with the place of its event
abbrev pub trace : List Turn → List (PlaceInRun × Entry)
trace [] = []
trace (turn ∷ turns) = map (λ entry. (turn.event.place, entry)) (entries_of turn.taken) ++ trace turns

-- the activity after the turns
abbrev pub last_activity : Activity → List Turn → Activity
last_activity a [] = a
last_activity a (turn ∷ turns) = last_activity (after_step turn.before turn.taken) turns

-- how a run has ended, by the activity that stands at the machine's own place; None while it goes on
abbrev pub outcome_of : Activity → Option Outcome
outcome_of (Ready n raw counts) = None
outcome_of (Waiting n raw counts payload) = None
outcome_of (Split n raw counts children) = None
outcome_of (Done output) = Some (Output output)
outcome_of (Failed error cause) = Some (FailedWith error cause)

-- the kinds of events
pub data Want : Type 0 where
  WantsMove : Want
  WantsAnswer : Want

-- the kind of an action
abbrev pub want_of : Action → Want
want_of Move = WantsMove
want_of (Gives answer) = WantsAnswer
want_of (FailsTask error cause) = WantsAnswer

-- an event of that kind is wanted at the activity itself, where its state is there
abbrev pub wanted_here : Want → Option State → List (PlaceInRun × Want)
wanted_here want None = []
wanted_here want (Some state) = ([], want) ∷ []

-- the move of a Split is wanted where its children are far enough
abbrev pub join_wanted : Joining → Option State → List (PlaceInRun × Want)
join_wanted (AllDone outputs) state = wanted_here WantsMove state
join_wanted (OneFailed i error cause) state = wanted_here WantsMove state
join_wanted StillRunning state = []

-- the place of a child's place, seen from one level higher
abbrev pub down_from : ℕ → PlaceInRun × Want → PlaceInRun × Want
down_from i wanted = (i ∷ wanted.0, wanted.1)

abbrev mutual
  -- the places where an event is enabled, each with its kind, in lexicographic order, a place before those below it
  pub enabled : Activity → Scope → List (PlaceInRun × Want)
  enabled (Ready n raw counts) scope = wanted_here WantsMove (state_named n scope)
  enabled (Waiting n raw counts payload) scope = wanted_here WantsAnswer (state_named n scope)
  enabled (Split n raw counts children) scope =
      join_wanted (joining 0 children) (state_named n scope) ++ enabled_below children (scope_below scope n) 0
  enabled (Done output) scope = []
  enabled (Failed error cause) scope = []

  -- those of the children from number i on
  pub enabled_below : Activities → (ℕ → Scope) → ℕ → List (PlaceInRun × Want)
  enabled_below NoActivities scopes i = []
  enabled_below (AndActivity child others) scopes i =
      map (down_from i) (enabled child (scopes i)) ++ enabled_below others scopes (suc i)

-- two places apart: neither stands at or below the other
pub data AreApart : PlaceInRun → PlaceInRun → Type 0 where
  apart_here : {i j : ℕ} {p q : PlaceInRun} → i ≢ j → AreApart (i ∷ p) (j ∷ q)
  apart_below : {i : ℕ} {p q : PlaceInRun} → AreApart p q → AreApart (i ∷ p) (i ∷ q)

-- What stood at a place is a Split, and still is: of the same state, with the same raw input and counts, and with the
-- same children but the one of that number, which is another now.
pub record HasChildReplaced (i : ℕ) (before after : Option Activity) : Type 0 where
  pub name : StateName
  pub raw : Tree
  pub counts : RetryCounts
  pub children : Activities
  pub child : Activity
  pub stood : before ≡ Some (Split name raw counts children)
  pub stands : after ≡ Some (Split name raw counts (set_child i child children))

-- Two actions at places of an activity, of which the second follows the first with these steps, can be taken in the
-- other order: each makes the same entries, and the activity after both is the same.
pub record Commute (scope : Scope) (a : Activity) (p : PlaceInRun) (x : Action) (q : PlaceInRun) (y : Action)
    (first second : Step) : Type 0 where
  pub sooner : Step
  pub later : Step
  pub second_first : step_at q scope a y ≡ Some sooner
  pub first_second : step_at p scope sooner.after x ≡ Some later
  pub same_second : sooner.entries ≡ second.entries
  pub same_first : later.entries ≡ first.entries
  pub same_after : later.after ≡ second.after

-- an event of that kind is enabled at that place
abbrev pub Enables : List (PlaceInRun × Want) → PlaceInRun → Want → Type 0
Enables [] p want = ⊥
Enables (wanted ∷ others) p want = (wanted ≡ (p, want)) ⊎ Enables others p want

-- a place comes before another in lexicographic order; it comes before those below it
pub data IsEarlier : PlaceInRun → PlaceInRun → Type 0 where
  above : {i : ℕ} {q : PlaceInRun} → IsEarlier [] (i ∷ q)
  lesser_child : {i j : ℕ} {p q : PlaceInRun} → i < j → IsEarlier (i ∷ p) (j ∷ q)
  same_child : {i : ℕ} {p q : PlaceInRun} → IsEarlier p q → IsEarlier (i ∷ p) (i ∷ q)

-- the place comes before each of these
abbrev pub IsEarlierThanEach : PlaceInRun → List (PlaceInRun × Want) → Type 0
IsEarlierThanEach p [] = Unit {0}
IsEarlierThanEach p (wanted ∷ others) = IsEarlier p wanted.0 × IsEarlierThanEach p others

-- each place comes before the later ones, so none stands twice
abbrev pub AreInLexicographicOrder : List (PlaceInRun × Want) → Type 0
AreInLexicographicOrder [] = Unit {0}
AreInLexicographicOrder (wanted ∷ others) = IsEarlierThanEach wanted.0 others × AreInLexicographicOrder others
