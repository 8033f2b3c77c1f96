-- What driving a run does, in the definitions.
use Rattle.std.specs.Prelude.{◌≡◌, ◌<◌, ◌≤◌, ℕ, List, [], ◌∷◌, ◌++◌, map, length, All}
use Rattle.std.specs.Prelude.{Option, Some, None, option_map, slice_get}
use Rattle.asl_model.specs.Tree.{Tree}
use Rattle.asl_model.specs.Machine.{Scope}
use Rattle.asl_model.specs.Numbering.{table_of}
use Rattle.asl_model.specs.Run as model
use Rattle.asl_model.specs.Run.{Action, Move, Gives, FailsTask, Activity, Waiting, activity_at, enabled}
use Rattle.asl_model.specs.Run.{Event, Entry, Step, Turn, run, trace, last_activity}
use Rattle.asl_model.specs.Run.{Outcome, Output, FailedWith, outcome_of}
use Rattle.asl_run.specs.Entries.{answer_view}
use Rattle.asl_run.specs.declared.driving.Pause.{Pause}
use Rattle.asl_run.specs.declared.driving.Pause.TheVariants as pauses
use Rattle.asl_run.specs.declared.driving.Stop.{Stop}
use Rattle.asl_run.specs.declared.driving.Stop.TheVariants as stops
use Rattle.asl_run.specs.declared.entries.Answer.{Answer}

-- ---- what may happen, and how far a run is driven

-- What may happen while a run is driven: out of so many places where an event is enabled, that one may be picked, by
-- its number; that answer may be given for a state of that name and its payload; none may come for them.
pub record Policy : Type 1 where
  pub may_pick : ℕ → ℕ → Type 0
  pub may_give : List ℕ → Tree → Action → Type 0
  pub may_be_silent : List ℕ → Tree → Type 0

-- that of an order and a source that say so
abbrev pub policy_of : (ℕ → ℕ → Type 0) → (List ℕ → Tree → Action → Type 0)
    → (List ℕ → Tree → Type 0) → Policy
policy_of may_pick may_give may_be_silent = record {
  may_pick = may_pick;
  may_give = may_give;
  may_be_silent = may_be_silent;
}

-- what is told of a run: entries with their places
abbrev pub Told : Type 0
Told = List (List ℕ × Entry)

-- How far a run is driven: what stands there, which answers are left for its tasks, and what was told of it so far.
pub record Stage : Type 0 where
  pub activity : Activity
  pub answers : List Action
  pub told : Told

-- the stage of these three
abbrev pub stage_of : Activity → List Action → Told → Stage
stage_of activity answers told = record { activity = activity; answers = answers; told = told }

-- ---- events and their answers

-- the answer that an action is, as a list; a move is none
abbrev pub answer_in : Action → List Action
answer_in Move = []
answer_in (Gives answer) = Gives answer ∷ []
answer_in (FailsTask error cause) = FailsTask error cause ∷ []

-- the answers among events, in their order
abbrev pub answers_among : List Event → List Action
answers_among [] = []
answers_among (event ∷ events) = answer_in event.action ++ answers_among events

-- what may happen where that stands: a move, or an answer that may be given for the state and the payload that wait
pub data MayHappen (MayGive : List ℕ → Tree → Action → Type 0) (here : Option Activity)
    : Action → Type 0 where
  any_move : MayHappen MayGive here Move
  answer_given : {n : List ℕ} {raw : Tree} {counts : List ℕ} {payload : Tree} {answer : Action}
      → here ≡ Some (Waiting n raw counts payload) → MayGive n payload answer
      → MayHappen MayGive here answer

-- a task waits there
pub record IsWaiting (here : Option Activity) : Type 0 where
  pub name : List ℕ
  pub raw : Tree
  pub counts : List ℕ
  pub payload : Tree
  pub is : here ≡ Some (Waiting name raw counts payload)

-- what stands there is no task that waits, for a move, and one that does for an answer
abbrev pub Suits : Option Activity → Action → Type 0
Suits here Move = (n : List ℕ) (raw : Tree) (counts : List ℕ) (payload : Tree)
    → here ≡ Some (Waiting n raw counts payload) → ⊥
Suits here (Gives answer) = IsWaiting here
Suits here (FailsTask error cause) = IsWaiting here

-- out of the places where an event is enabled, in their order, that one may be picked, by its number among so many
pub record IsPicked (MayPick : ℕ → ℕ → Type 0) (machine : Scope) (a : Activity)
    (place : List ℕ) : Type 0 where
  pub number : ℕ
  pub picks : MayPick (length (enabled a machine)) number
  pub stands : option_map (λ wanted. wanted.0) (slice_get (enabled a machine) number) ≡ Some place

-- the event of a turn was enabled, its place may be picked, and it may happen where it stands
pub record IsTaken (policy : Policy) (machine : Scope) (turn : Turn) : Type 0 where
  pub step : Step
  pub enabled : turn.taken ≡ Some step
  pub picked : IsPicked policy.may_pick machine turn.before turn.event.place
  pub allowed : MayHappen policy.may_give (activity_at turn.event.place turn.before) turn.event.action

-- ---- a run that is driven

-- That many events, all enabled and each at a place that may be picked, lead a run from one stage to another. Their
-- answers, in order, are those that stand before the ones that are left, and each may be given where it is taken.
-- Behind what was told before, what they add to the run's history is told.
pub record Drives (policy : Policy) (machine : Scope) (count : ℕ) (before after : Stage) : Type 0 where
  pub events : List Event
  pub counted : length events ≡ count
  pub taken : All (IsTaken policy machine) (run machine before.activity events)
  pub answered : before.answers ≡ answers_among events ++ after.answers
  pub traced : after.told ≡ before.told ++ trace (run machine before.activity events)
  pub stands : last_activity before.activity (run machine before.activity events) ≡ after.activity

-- a task waits at the place, and no answer may come for its payload; that is its state's name
pub record IsUnanswered (MayBeSilent : List ℕ → Tree → Type 0) (place : List ℕ) (a : Activity)
    (state : Option (List ℕ)) : Type 0 where
  pub name : List ℕ
  pub raw : Tree
  pub counts : List ℕ
  pub payload : Tree
  pub named : state ≡ Some name
  pub waits : activity_at place a ≡ Some (Waiting name raw counts payload)
  pub silent : MayBeSilent name payload

-- a place that may be picked is one where a task waits unanswered, of the state of that name
pub record TurnIsUnanswered (policy : Policy) (machine : Scope) (a : Activity)
    (state : Option (List ℕ)) : Type 0 where
  pub place : List ℕ
  pub picked : IsPicked policy.may_pick machine a place
  pub unanswered : IsUnanswered policy.may_be_silent place a state

-- why driving stops after that many events, of at most so many, where that activity stands
abbrev pub StopsSo : Policy → Scope → ℕ → ℕ → Activity → Stop → Type 0
StopsSo policy machine most count a stops.Output = (output : Tree) × (outcome_of a ≡ Some (Output output))
StopsSo policy machine most count a stops.Failed =
    (error : List ℕ) × (cause : List ℕ) × (outcome_of a ≡ Some (FailedWith error cause))
StopsSo policy machine most count a (stops.NoAnswer state) =
    (outcome_of a ≡ None) × (count < most)
    × TurnIsUnanswered policy machine a (slice_get (table_of machine).names state)
StopsSo policy machine most count a stops.StepsSpent = (outcome_of a ≡ None) × (count ≡ most)

-- a run is driven from one stage to another by at most so many events, until it stops so
pub record Stops (policy : Policy) (machine : Scope) (most : ℕ) (before : Stage) (stop : Stop)
    (after : Stage) : Type 0 where
  pub count : ℕ
  pub within : count ≤ most
  pub drives : Drives policy machine count before after
  pub why : StopsSo policy machine most count after.activity stop

-- the answer that is unused, as a list
abbrev pub unused : Option Answer → List Action
unused None = []
unused (Some answer) = answer_view answer ∷ []

-- the stage, where that answer is left too, in front of the others
abbrev pub with_unused : Option Answer → Stage → Stage
with_unused answer stage = stage_of stage.activity (unused answer ++ stage.answers) stage.told

-- a run is driven from one stage to another by fewer than so many events, until it is broken off before its end; the
-- answer that comes back was the next one
pub record BreaksOff (policy : Policy) (machine : Scope) (most : ℕ) (before : Stage)
    (answer : Option Answer) (after : Stage) : Type 0 where
  pub count : ℕ
  pub fewer : count < most
  pub going : outcome_of after.activity ≡ None
  pub drives : Drives policy machine count before (with_unused answer after)

-- ---- a turn

-- driving stops so for that outcome of the run; it goes on where there is none
abbrev pub EndsSo : Option Stop → Option Outcome → Type 0
EndsSo None outcome = outcome ≡ None
EndsSo (Some stops.Output) outcome = (output : Tree) × (outcome ≡ Some (Output output))
EndsSo (Some stops.Failed) outcome =
    (error : List ℕ) × (cause : List ℕ) × (outcome ≡ Some (FailedWith error cause))
EndsSo (Some (stops.NoAnswer state)) outcome = ⊥
EndsSo (Some stops.StepsSpent) outcome = ⊥

-- the event may happen next, and its answer is the front of those that are given
pub record ComesNext (MayGive : List ℕ → Tree → Action → Type 0) (a : Activity)
    (given : List Action) (event : Event) (left : List Action) : Type 0 where
  pub allowed : MayHappen MayGive (activity_at event.place a) event.action
  pub answered : given ≡ answer_in event.action ++ left

-- why a turn has no event, and what that leaves of the answers; so the state is unanswered, by its name
abbrev pub Pauses : (Option (List ℕ) → Type 0) → List (List ℕ)
    → List Action → List Action → Pause → Type 0
Pauses Unanswered names given left (pauses.NoAnswer state) =
    Unanswered (slice_get names state) × (left ≡ given)
Pauses Unanswered names given left (pauses.OutOfMemory answer) = given ≡ unused answer ++ left

-- the event is enabled, and what it leads to is told behind what was told before
pub record IsTold (machine : Scope) (before : Activity) (event : Event) (told longer : Told)
    (after : Activity) : Type 0 where
  pub step : Step
  pub enabled : model.step machine before event ≡ Some step
  pub grown : longer ≡ told ++ map (λ entry. (event.place, entry)) step.entries
  pub stands : after ≡ step.after

-- nothing has happened, and nothing was told
pub record IsLeft (before : Activity) (told : Told) (after : Activity)
    (after_told : Told) : Type 0 where
  pub stands : after ≡ before
  pub tells : after_told ≡ told
