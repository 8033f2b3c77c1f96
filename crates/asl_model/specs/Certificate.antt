-- Declared shapes and certificates, what makes a certificate closed, and what a closed certificate promises of runs.
-- This is the profile's own: the standard has no shapes.
use Rattle.std.specs.Prelude.{◌≡◌, ℕ, zero, suc, List, [], ◌∷◌, Bool, true, false, IsTrue, ◌↔◌, length, Option, Some}
use Rattle.std.specs.Prelude.{None, is_some, bytes_eq, if◌then◌else◌, option_and_then, Result, Ok, Err}
use Rattle.std.specs.Option.{option_map}
use Rattle.asl_model.specs.Names.{StateName, ErrorName, Bytes, PlaceInRun}
use Rattle.asl_model.specs.Tree.{Tree, Array, Trees, NoTrees, AndTree, count}
use Rattle.asl_model.specs.Shape.{Shape, Any, Never, Has, Inside}
use Rattle.asl_model.specs.Faults.{Fault}
use Rattle.asl_model.specs.Machine.{Catcher, Scope, State, Kind, Pass, Task, Choice, Wait, Succeed}
use Rattle.asl_model.specs.Machine.{Fail, Parallel, Map, settings_of, kind_of, start_of, state_named}
use Rattle.asl_model.specs.Machine.{child_scope, how_many, names_state, names_task, IsScopeOf}
use Rattle.asl_model.specs.Flow.{Work, Finishes, Leaves, FailsWith, Asks, Splits}
use Rattle.asl_model.specs.Flow.{Raises, at_output_path, output_of, first_move}
use Rattle.asl_model.specs.Run.{Activity, Activities, NoActivities, AndActivity, Ready, Waiting, Split, Done}
use Rattle.asl_model.specs.Run.{Failed, Action, Move, Gives, FailsTask, Event, Outcome, Output, FailedWith}
use Rattle.asl_model.specs.Run.{Entry, Entered, Asked, Left, Raised, TaskFailed, BranchFailed, Retried}
use Rattle.asl_model.specs.Run.{Caught, Ended, Step, Turn, caught_input, scope_below, activity_at, StandsIn}
use Rattle.asl_model.specs.Run.{child_at, start, step, run_of, last_activity, entries_of}

-- the shapes of a task: of its payload, and of the answers that it gives
pub record TaskShapes : Type 0 where
  pub takes : Shape
  pub gives : Shape

-- what is declared: the shape of the machine's input, and those of its tasks by the names of their states
pub record Declared : Type 0 where
  pub input : Shape
  pub tasks : List (StateName × TaskShapes)

-- what is certified of a state: the shapes of its raw input and of its output; for a Parallel the shape of each
-- branch's end, for a Map that of its processor's end
pub record StateShapes : Type 0 where
  pub input : Shape
  pub output : Shape
  pub branches : List Shape
  pub item : Option Shape

-- a certificate: the shape of the machine's output, and those of its states by their names
pub record Certificate : Type 0 where
  pub output : Shape
  pub states : List (StateName × StateShapes)

-- the first value under that name
abbrev pub under : {A : Type 0} → StateName → List (StateName × A) → Option A
under n [] = None
under n (entry ∷ entries) = if bytes_eq entry.0 n then Some entry.1 else under n entries

-- what is certified of the state of that name
abbrev pub certified : Certificate → StateName → Option StateShapes
certified certificate n = under n certificate.states

-- the shape that stands there, or Never
abbrev pub or_never : Option Shape → Shape
or_never None = Never
or_never (Some s) = s

-- the input of an entry; Never where there is none
abbrev pub input_among : Option StateShapes → Shape
input_among None = Never
input_among (Some shapes) = shapes.input

-- its output; Never where there is none
abbrev pub output_among : Option StateShapes → Shape
output_among None = Never
output_among (Some shapes) = shapes.output

-- the certified shape of the raw input of the state of that name; Never where there is no entry
abbrev pub certified_input : Certificate → StateName → Shape
certified_input certificate n = input_among (certified certificate n)

-- the certified shape of its output; Never where there is no entry
abbrev pub certified_output : Certificate → StateName → Shape
certified_output certificate n = output_among (certified certificate n)

-- the shape at a position, counted from 0
abbrev pub branch_shape : ℕ → List Shape → Option Shape
branch_shape i [] = None
branch_shape zero (s ∷ further) = Some s
branch_shape (suc i) (s ∷ further) = branch_shape i further

-- the shape certified for the end of a branch
abbrev pub branch_end : ℕ → Option StateShapes → Option Shape
branch_end i None = None
branch_end i (Some shapes) = branch_shape i shapes.branches

-- the shape certified for the end of a processor
abbrev pub item_end : Option StateShapes → Option Shape
item_end None = None
item_end (Some shapes) = shapes.item

-- the shape certified for the end of the scope of a state's child of that number
abbrev pub child_end : Kind → Option StateShapes → ℕ → Option Shape
child_end (Pass result) entry i = None
child_end (Task resource) entry i = None
child_end (Choice rules default) entry i = None
child_end (Wait delay) entry i = None
child_end Succeed entry i = None
child_end (Fail error cause) entry i = None
child_end (Parallel branches) entry i = branch_end i entry
child_end (Map items selector processor) entry i = item_end entry

-- what a declared task takes; Any where it isn't declared
abbrev pub takes_among : Option TaskShapes → Shape
takes_among None = Any
takes_among (Some task) = task.takes

-- what it gives; Any where it isn't declared
abbrev pub gives_among : Option TaskShapes → Shape
gives_among None = Any
gives_among (Some task) = task.gives

-- the shape of the payload that the task of that name takes; Any where it isn't declared
abbrev pub takes_of : Declared → StateName → Shape
takes_of declared n = takes_among (under n declared.tasks)

-- the shape of the answers that it gives; Any where it isn't declared
abbrev pub gives_of : Declared → StateName → Shape
gives_of declared n = gives_among (under n declared.tasks)

-- how many branches a state has
abbrev pub branches_in : Kind → ℕ
branches_in (Pass result) = 0
branches_in (Task resource) = 0
branches_in (Choice rules default) = 0
branches_in (Wait delay) = 0
branches_in Succeed = 0
branches_in (Fail error cause) = 0
branches_in (Parallel branches) = how_many branches
branches_in (Map items selector processor) = 0

-- a Map
abbrev pub is_map : Kind → Bool
is_map (Pass result) = false
is_map (Task resource) = false
is_map (Choice rules default) = false
is_map (Wait delay) = false
is_map Succeed = false
is_map (Fail error cause) = false
is_map (Parallel branches) = false
is_map (Map items selector processor) = true

-- the entry is there and of the right form: a shape a branch for a Parallel, that of the processor's end for a Map
-- alone
pub record HasEntry (certificate : Certificate) (n : StateName) (kind : Kind) : Type 0 where
  pub shapes : StateShapes
  pub stands : certified certificate n ≡ Some shapes
  pub branches : length shapes.branches ≡ branches_in kind
  pub item : is_some shapes.item ≡ is_map kind

-- each of the trees has the shape that its number gives
abbrev pub EachHas : (ℕ → Shape) → Trees → Type 0
EachHas shapes NoTrees = Unit {0}
EachHas shapes (AndTree t ts) = Has (shapes 0) t × EachHas (λ i. shapes (suc i)) ts

-- the output of state n meets no fault, has the state's certified shape, and that of what comes next: the next state's
-- input or the scope's end
abbrev pub OutputFits : Certificate → Shape → StateName → Option StateName → Result Tree Fault → Type 0
OutputFits certificate end n next (Err fault) = ⊥
OutputFits certificate end n None (Ok output) = Has (certified_output certificate n) output × Has end output
OutputFits certificate end n (Some next) (Ok output) =
    Has (certified_output certificate n) output × Has (certified_input certificate next) output

-- what the first move of state n comes to on raw input v raises no fault, and the shapes fit: of a payload, of each
-- child's input, and of the output for each result that the shapes allow
abbrev pub WorkFits : Declared → Certificate → Shape → StateName → State → Tree → Work → Type 0
WorkFits declared certificate end n state v (Finishes result) =
    OutputFits certificate end n (settings_of state).next (output_of (settings_of state) v result)
WorkFits declared certificate end n state v (Leaves next u) =
    OutputFits certificate end n next (at_output_path (settings_of state) u)
WorkFits declared certificate end n state v (FailsWith error cause) = Unit {0}
WorkFits declared certificate end n state v (Asks payload) = Has (takes_of declared n) payload
    × ((answer : Tree) → Has (gives_of declared n) answer
    → OutputFits certificate end n (settings_of state).next (output_of (settings_of state) v answer))
WorkFits declared certificate end n state v (Splits inputs) =
    EachHas (λ i. certified_input certificate (start_of (child_scope (kind_of state) i))) inputs
    × ((outputs : Trees) → count outputs ≡ count inputs
    → EachHas (λ i. or_never (child_end (kind_of state) (certified certificate n) i)) outputs
    → OutputFits certificate end n (settings_of state).next (output_of (settings_of state) v (Array outputs)))
WorkFits declared certificate end n state v (Raises fault) = ⊥

-- what a catcher hands on is there, and has the certified input of its next state
abbrev pub CaughtFits : Certificate → StateName → Option Tree → Type 0
CaughtFits certificate next None = ⊥
CaughtFits certificate next (Some input) = Has (certified_input certificate next) input

-- so for each of the catchers, whatever the error and its cause are
abbrev pub CatchersFit : Certificate → Tree → List Catcher → Type 0
CatchersFit certificate v [] = Unit {0}
CatchersFit certificate v (catcher ∷ others) =
    ((error : ErrorName) (cause : Bytes) → CaughtFits certificate catcher.next (caught_input catcher v error cause))
    × CatchersFit certificate v others

-- the certificate is closed at state n of a scope with that end
pub record IsClosedAt (declared : Declared) (certificate : Certificate) (end : Shape) (n : StateName) (state : State) :
    Type 0 where
  pub entry : HasEntry certificate n (kind_of state)
  pub work : (v : Tree) → Has (certified_input certificate n) v
      → WorkFits declared certificate end n state v (first_move state v)
  pub catchers : (v : Tree) → Has (certified_input certificate n) v
      → CatchersFit certificate v (settings_of state).catchers

-- so at each state of a scope with that end
abbrev pub IsClosedIn : Declared → Certificate → Shape → Scope → Type 0
IsClosedIn declared certificate end scope = (n : StateName) (state : State) → state_named n scope ≡ Some state
    → IsClosedAt declared certificate end n state

-- The certificate is closed: its entries are those of the machine's states, the declared tasks are its Tasks, the
-- declared input is inside what is certified for the start state, and it is closed at each state of each scope. The
-- machine's own scope has the certificate's output as its end; a child's scope has what its state's entry says.
pub record IsClosed (declared : Declared) (certificate : Certificate) (machine : Scope) : Type 0 where
  pub no_other_entry : (n : StateName) → IsTrue (is_some (certified certificate n)) → IsTrue (names_state machine n)
  pub tasks : (n : StateName) → IsTrue (is_some (under n declared.tasks)) ↔ IsTrue (names_task machine n)
  pub start : Inside declared.input (certified_input certificate (start_of machine))
  pub own : IsClosedIn declared certificate certificate.output machine
  pub children : (scope : Scope) → IsScopeOf machine scope → (n : StateName) (state : State)
      → state_named n scope ≡ Some state → (i : ℕ)
      → IsClosedIn declared certificate (or_never (child_end (kind_of state) (certified certificate n) i))
      (child_scope (kind_of state) i)

-- the name of the state that waits in the activity itself
abbrev pub waiting_name : Activity → Option StateName
waiting_name (Ready n raw counts) = None
waiting_name (Waiting n raw counts payload) = Some n
waiting_name (Split n raw counts children) = None
waiting_name (Done output) = None
waiting_name (Failed error cause) = None

-- the name of the state that waits at a place
abbrev pub waiting_at : PlaceInRun → Activity → Option StateName
waiting_at p a = option_and_then waiting_name (activity_at p a)

-- the answer has the shape that is declared for the state that waits
abbrev pub AnswerObeys : Declared → Option StateName → Tree → Type 0
AnswerObeys declared None answer = Unit {0}
AnswerObeys declared (Some n) answer = Has (gives_of declared n) answer

-- so for an action at a place; moves and failures of tasks are free
abbrev pub ActionObeys : Declared → PlaceInRun → Activity → Action → Type 0
ActionObeys declared p a Move = Unit {0}
ActionObeys declared p a (Gives answer) = AnswerObeys declared (waiting_at p a) answer
ActionObeys declared p a (FailsTask error cause) = Unit {0}

-- so where the action is enabled; what isn't taken is free too
abbrev pub TakenObeys : Declared → PlaceInRun → Activity → Action → Option Step → Type 0
TakenObeys declared p a action None = Unit {0}
TakenObeys declared p a action (Some taken) = ActionObeys declared p a action

-- each answer that is taken in these turns has the shape that is declared for its state
abbrev pub AnswersObey : Declared → List Turn → Type 0
AnswersObey declared [] = Unit {0}
AnswersObey declared (turn ∷ turns) =
    TakenObeys declared turn.event.place turn.before turn.event.action turn.taken × AnswersObey declared turns

-- an input and a list of events obey the declared shapes
pub record Obeys (declared : Declared) (machine : Scope) (input : Tree) (events : List Event) : Type 0 where
  pub has_input : Has declared.input input
  pub answers : AnswersObey declared (run_of machine input events)

-- the shape certified for the end of the scope of a Split's child
abbrev pub end_under : Certificate → StateName → Option State → ℕ → Shape
end_under certificate n None i = Never
end_under certificate n (Some state) i = or_never (child_end (kind_of state) (certified certificate n) i)

-- the end of a child that is there
abbrev pub end_of_child : (Activity → Shape) → Option Activity → Shape
end_of_child end_of None = Never
end_of_child end_of (Some child) = end_of child

-- the shape certified for the end of the scope at a place of an activity, which stands in a scope with that end
abbrev pub end_at : Certificate → PlaceInRun → Scope → Shape → Activity → Shape
end_at certificate [] scope end a = end
end_at certificate (i ∷ p) scope end (Ready n raw counts) = Never
end_at certificate (i ∷ p) scope end (Waiting n raw counts payload) = Never
end_at certificate (i ∷ p) scope end (Split n raw counts children) =
    end_of_child (λ child. end_at certificate p (scope_below scope n i) (end_under certificate n (state_named n scope)
    i) child) (child_at i children)
end_at certificate (i ∷ p) scope end (Done output) = Never
end_at certificate (i ∷ p) scope end (Failed error cause) = Never

-- the entry is no data-flow fault
abbrev pub RaisesNothing : Entry → Type 0
RaisesNothing (Entered n input) = Unit {0}
RaisesNothing (Asked n payload) = Unit {0}
RaisesNothing (Left n output) = Unit {0}
RaisesNothing (Raised n fault) = ⊥
RaisesNothing (TaskFailed n error cause) = Unit {0}
RaisesNothing (BranchFailed n i error cause) = Unit {0}
RaisesNothing (Retried n i) = Unit {0}
RaisesNothing (Caught n i next) = Unit {0}
RaisesNothing (Ended outcome) = Unit {0}

-- an output has the shape certified for the scope's end; an error has none
abbrev pub OutcomeFits : Shape → Outcome → Type 0
OutcomeFits end (Output output) = Has end output
OutcomeFits end (FailedWith error cause) = Unit {0}

-- an input has the certified input of its state, a payload what its task takes, an output the certified output, an
-- end the shape certified for the scope's end
abbrev pub IsAsCertified : Declared → Certificate → Shape → Entry → Type 0
IsAsCertified declared certificate end (Entered n input) = Has (certified_input certificate n) input
IsAsCertified declared certificate end (Asked n payload) = Has (takes_of declared n) payload
IsAsCertified declared certificate end (Left n output) = Has (certified_output certificate n) output
IsAsCertified declared certificate end (Raised n fault) = Unit {0}
IsAsCertified declared certificate end (TaskFailed n error cause) = Unit {0}
IsAsCertified declared certificate end (BranchFailed n i error cause) = Unit {0}
IsAsCertified declared certificate end (Retried n i) = Unit {0}
IsAsCertified declared certificate end (Caught n i next) = Unit {0}
IsAsCertified declared certificate end (Ended outcome) = OutcomeFits end outcome

-- none of the entries is a data-flow fault
abbrev pub NoneRaises : List Entry → Type 0
NoneRaises [] = Unit {0}
NoneRaises (entry ∷ entries) = RaisesNothing entry × NoneRaises entries

-- each of the entries is as certified, where the scope of their place has that end
abbrev pub EachIsAsCertified : Declared → Certificate → Shape → List Entry → Type 0
EachIsAsCertified declared certificate end [] = Unit {0}
EachIsAsCertified declared certificate end (entry ∷ entries) =
    IsAsCertified declared certificate end entry × EachIsAsCertified declared certificate end entries

-- no turn raises a data-flow fault
abbrev pub NoTurnRaises : List Turn → Type 0
NoTurnRaises [] = Unit {0}
NoTurnRaises (turn ∷ turns) = NoneRaises (entries_of turn.taken) × NoTurnRaises turns

-- a history tells no data-flow fault
abbrev pub TellsNoFault : List (PlaceInRun × Entry) → Type 0
TellsNoFault [] = Unit {0}
TellsNoFault (told ∷ further) = RaisesNothing told.1 × TellsNoFault further

-- every entry of every turn is as certified
abbrev pub TurnsAreAsCertified : Declared → Certificate → Scope → List Turn → Type 0
TurnsAreAsCertified declared certificate machine [] = Unit {0}
TurnsAreAsCertified declared certificate machine (turn ∷ turns) =
    EachIsAsCertified declared certificate (end_at certificate turn.event.place machine certificate.output turn.before)
    (entries_of turn.taken)
    × TurnsAreAsCertified declared certificate machine turns

-- the run of a machine on an input, with these events, raises no data-flow fault and is as certified throughout
pub record RunIsAsCertified (declared : Declared) (certificate : Certificate) (machine : Scope) (input : Tree)
    (events : List Event) : Type 0 where
  pub raises_nothing : NoTurnRaises (run_of machine input events)
  pub as_certified : TurnsAreAsCertified declared certificate machine (run_of machine input events)

-- what the first move of the scope's state of that name comes to; None where there is no such state
abbrev pub move_at : Scope → StateName → Tree → Option Work
move_at scope n raw = option_map (λ state. first_move state raw) (state_named n scope)

-- how many children there are
abbrev pub how_many_children : Activities → ℕ
how_many_children NoActivities = 0
how_many_children (AndActivity child others) = suc (how_many_children others)

-- the first move of state n on its raw input splits, and there is a child for each input: one a branch, or one an item
pub record HasSplit (scope : Scope) (n : StateName) (raw : Tree) (children : Activities) : Type 0 where
  pub inputs : Trees
  pub split : move_at scope n raw ≡ Some (Splits inputs)
  pub one_each : how_many_children children ≡ count inputs

abbrev mutual
  -- The data of an activity are as certified, which stands in a scope with that end: what is Ready, Waiting or Split
  -- has a raw input of its state's certified input; a Waiting has the payload that its state asks with, one that its
  -- task takes; a Split has a child for each input that its state splits into; what is Done has an output of the
  -- scope's end.
  pub DataFits : Declared → Certificate → Activity → Scope → Shape → Type 0
  DataFits declared certificate (Ready n raw counts) scope end = Has (certified_input certificate n) raw
  DataFits declared certificate (Waiting n raw counts payload) scope end =
      Has (certified_input certificate n) raw × Has (takes_of declared n) payload ×
      (move_at scope n raw ≡ Some (Asks payload))
  DataFits declared certificate (Split n raw counts children) scope end =
      Has (certified_input certificate n) raw × HasSplit scope n raw children
      × EachDataFits declared certificate children (scope_below scope n) (end_under certificate n (state_named n scope))
  DataFits declared certificate (Done output) scope end = Has end output
  DataFits declared certificate (Failed error cause) scope end = Unit {0}

  -- so for each child, in the scope of its number and with that scope's end
  pub EachDataFits : Declared → Certificate → Activities → (ℕ → Scope) → (ℕ → Shape) → Type 0
  EachDataFits declared certificate NoActivities scopes ends = Unit {0}
  EachDataFits declared certificate (AndActivity child others) scopes ends =
      DataFits declared certificate child (scopes 0) (ends 0)
      × EachDataFits declared certificate others (λ i. scopes (suc i)) (λ i. ends (suc i))

-- An activity is as certified, which stands in a scope with that end: at every depth each state that is Ready, Waiting
-- or Split is one of the scope in which it stands, and the data are as certified.
pub record ActivityFits (declared : Declared) (certificate : Certificate) (a : Activity) (scope : Scope) (end : Shape) :
    Type 0 where
  pub stands : StandsIn a scope
  pub fits : DataFits declared certificate a scope end

-- the types of states, by what their moves can do
pub data TypeGroup : Type 0 where
  -- Pass, Succeed, Fail: one move, and no other error than a data-flow fault or its own
  MovesOn : TypeGroup
  -- Wait, Choice, Task: they look at data, choose, or ask, with retry and catch
  Works : TypeGroup
  -- Parallel, Map: they split, join, and abandon their children
  Nests : TypeGroup

-- the group of a state's type
abbrev pub group_of : Kind → TypeGroup
group_of (Pass result) = MovesOn
group_of (Task resource) = Works
group_of (Choice rules default) = Works
group_of (Wait delay) = Works
group_of Succeed = MovesOn
group_of (Fail error cause) = MovesOn
group_of (Parallel branches) = Nests
group_of (Map items selector processor) = Nests

-- the group of the state that an activity stands at
abbrev pub group_here : Scope → Activity → Option TypeGroup
group_here scope (Ready n raw counts) = option_map (λ state. group_of (kind_of state)) (state_named n scope)
group_here scope (Waiting n raw counts payload) = option_map (λ state. group_of (kind_of state)) (state_named n scope)
group_here scope (Split n raw counts children) = option_map (λ state. group_of (kind_of state)) (state_named n scope)
group_here scope (Done output) = None
group_here scope (Failed error cause) = None

-- the group of the state that stands at a place of an activity, which stands in a scope
abbrev pub group_at : PlaceInRun → Scope → Activity → Option TypeGroup
group_at [] scope a = group_here scope a
group_at (i ∷ p) scope (Ready n raw counts) = None
group_at (i ∷ p) scope (Waiting n raw counts payload) = None
group_at (i ∷ p) scope (Split n raw counts children) =
    option_and_then (group_at p (scope_below scope n i)) (child_at i children)
group_at (i ∷ p) scope (Done output) = None
group_at (i ∷ p) scope (Failed error cause) = None

-- each activity of a run that obeys is as certified: that before each turn
abbrev pub EachActivityFits : Declared → Certificate → Scope → List Turn → Type 0
EachActivityFits declared certificate machine [] = Unit {0}
EachActivityFits declared certificate machine (turn ∷ turns) =
    ActivityFits declared certificate turn.before machine certificate.output × EachActivityFits declared certificate
    machine turns

-- the data of each activity of a run are as certified: of that before each turn
abbrev pub EachHasFittingData : Declared → Certificate → Scope → List Turn → Type 0
EachHasFittingData declared certificate machine [] = Unit {0}
EachHasFittingData declared certificate machine (turn ∷ turns) =
    DataFits declared certificate turn.before machine certificate.output
    × EachHasFittingData declared certificate machine turns

-- each event at a state of that group, which is taken and whose answer obeys, leaves an activity as certified that was
-- so
pub record IsKeptBy (group : TypeGroup) (declared : Declared) (certificate : Certificate) (machine : Scope) :
    Type 0 where
  pub kept : (a : Activity) (event : Event) (taken : Step)
      → ActivityFits declared certificate a machine certificate.output
      → group_at event.place machine a ≡ Some group → step machine a event ≡ Some taken
      → ActionObeys declared event.place a event.action
      → ActivityFits declared certificate taken.after machine certificate.output

-- each event at a state of that group, which is taken and whose answer obeys, leaves data as certified that were so
pub record KeepsData (group : TypeGroup) (declared : Declared) (certificate : Certificate) (machine : Scope) :
    Type 0 where
  pub kept : (a : Activity) (event : Event) (taken : Step)
      → DataFits declared certificate a machine certificate.output
      → group_at event.place machine a ≡ Some group → step machine a event ≡ Some taken
      → ActionObeys declared event.place a event.action
      → DataFits declared certificate taken.after machine certificate.output

-- the activities of a run that obeys are as certified, before each turn and after the last
pub record ActivitiesAreAsCertified (declared : Declared) (certificate : Certificate) (machine : Scope) (input : Tree)
    (events : List Event) : Type 0 where
  pub before_each : EachActivityFits declared certificate machine (run_of machine input events)
  pub after_all : ActivityFits declared certificate (last_activity (start machine input) (run_of machine input events))
      machine certificate.output

-- the data of a run's activities that obey are as certified, before each turn and after the last
pub record DataAreAsCertified (declared : Declared) (certificate : Certificate) (machine : Scope) (input : Tree)
    (events : List Event) : Type 0 where
  pub before_each : EachHasFittingData declared certificate machine (run_of machine input events)
  pub after_all : DataFits declared certificate (last_activity (start machine input) (run_of machine input events))
      machine certificate.output
