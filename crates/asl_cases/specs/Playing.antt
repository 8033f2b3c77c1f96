-- What a case comes to that is played.
use Rattle.std.specs.Prelude.{◌≡◌, ◌≢◌, ◌<◌, ◌≤◌, ℕ, List, [], ◌∷◌, ◌++◌, length, Bool, true, false}
use Rattle.std.specs.Prelude.{Option, Some, None, option_map, slice_get}
use Rattle.asl_model.specs.Certificate.{Declared, ActionObeys, gives_of, waiting_at}
use Rattle.asl_model.specs.Machine.{Scope}
use Rattle.asl_model.specs.Numbering.{table_of}
use Rattle.asl_model.specs.Run.{Action, Move, Gives, Activity, Ended, Event, Step, Turn, run, start, trace}
use Rattle.asl_model.specs.Run.{Outcome, Output, FailedWith, enabled, last_activity, outcome_of}
use Rattle.asl_model.specs.Shape.{has}
use Rattle.asl_model.specs.Tree.{Tree}
use Rattle.asl_run.specs.Driving.{Told}
use Rattle.asl_run.specs.Entries.{answer_view}
use Rattle.asl_suites.specs.Scripts.{StateScripts, answer_of, left_of}
use Rattle.asl_tree.specs.View.{view}
use Rattle.asl_tree.specs.declared.Tree as trees
use Rattle.asl_cases.specs.Asking.{IsTurnOf, item_of, last_of}
use Rattle.asl_cases.specs.declared.playing.End.{End}
use Rattle.asl_cases.specs.declared.playing.End.TheVariants as ends

-- ---- what a case goes by

-- The answers of a case: for the name of a state, what its tasks are answered.
abbrev pub Answers : Type 0
Answers = List ℕ → Option StateScripts

-- What a case goes by: a machine, declared shapes where they are given, an input, and answers.
pub record Case : Type 0 where
  pub machine : Scope
  pub shapes : Option Declared
  pub input : Tree
  pub answers : Answers

-- these four
abbrev pub case_of : Scope → Option Declared → Tree → Answers → Case
case_of machine shapes input answers = record {
  machine = machine;
  shapes = shapes;
  input = input;
  answers = answers;
}

-- How far a case is played: what stands in its run, which answers are left, and what was told of it so far.
pub record Stage : Type 0 where
  pub activity : Activity
  pub answers : Answers
  pub told : Told

-- the stage of these three
abbrev pub stage_of : Activity → Answers → Told → Stage
stage_of activity answers told = record { activity = activity; answers = answers; told = told }

-- where a case begins
abbrev pub begun : Case → Stage
begun given = stage_of (start given.machine given.input) given.answers []

-- an input has its shape, where one is declared
abbrev pub fits_input : Option Declared → Tree → Bool
fits_input None input = true
fits_input (Some declared) input = has declared.input input

-- ---- turns

-- the place whose turn it is: the first where an event is enabled
abbrev pub place_of_turn : Scope → Activity → Option (List ℕ)
place_of_turn machine a = option_map (λ wanted. wanted.0) (slice_get (enabled a machine) 0)

-- The state of that number and name waits for an answer at that place, and it is its turn.
pub record WaitsInTurn (machine : Scope) (a : Activity) (number : ℕ) (name place : List ℕ) : Type 0 where
  pub turn : place_of_turn machine a ≡ Some place
  pub waits : waiting_at place a ≡ Some name
  pub numbered : slice_get (table_of machine).names number ≡ Some name

-- That answer is the next one for the state of that name in that item. Once it is taken, those behind it are left.
pub record IsTaken (before : Answers) (name : List ℕ) (item : Option ℕ) (answer : Action)
    (after : Answers) : Type 0 where
  pub next : answer_of (before name) item ≡ Some answer
  pub left : after name ≡ option_map (λ own. left_of own item) (before name)
  pub others : (n : List ℕ) → n ≢ name → after n ≡ before n

-- the answers are the same ones
abbrev pub AreKept : Answers → Answers → Type 0
AreKept before after = (n : List ℕ) → after n ≡ before n

-- what an answer gives has the shape that is declared for the task that waits; a failure is free, and so is a move
abbrev pub ActionFits : Option Declared → List ℕ → Activity → Action → Type 0
ActionFits None place a action = Unit {0}
ActionFits (Some declared) place a action = ActionObeys declared place a action

-- What a turn takes of the answers: a move none; an answer is the next one for the task that waits at its place.
pub data Takes (machine : Scope) (turn : Turn) : Answers → Answers → Type 0 where
  takes_none : {answers : Answers} → turn.event.action ≡ Move → Takes machine turn answers answers
  takes_next : {before after : Answers} {number : ℕ} {name : List ℕ}
      → WaitsInTurn machine turn.before number name turn.event.place
      → IsTaken before name (item_of machine turn.event.place turn.before) turn.event.action after
      → Takes machine turn before after

-- A turn of a case: its event is enabled, at the place whose turn it is, and what it takes of the answers fits.
pub record IsTurn (machine : Scope) (shapes : Option Declared) (turn : Turn)
    (before after : Answers) : Type 0 where
  pub step : Step
  pub is_enabled : turn.taken ≡ Some step
  pub picked : place_of_turn machine turn.before ≡ Some turn.event.place
  pub takes : Takes machine turn before after
  pub fits : ActionFits shapes turn.event.place turn.before turn.event.action

-- these are turns of a case, one after the other
pub data AreTurns (machine : Scope) (shapes : Option Declared) : List Turn → Answers → Answers → Type 0 where
  no_turns : {answers : Answers} → AreTurns machine shapes [] answers answers
  turn_then : {turn : Turn} {turns : List Turn} {before between after : Answers}
      → IsTurn machine shapes turn before between → AreTurns machine shapes turns between after
      → AreTurns machine shapes (turn ∷ turns) before after

-- That many events lead a case from one stage to another. Behind what was told before, what they add to the run's
-- history is told.
pub record Plays (machine : Scope) (shapes : Option Declared) (count : ℕ) (before after : Stage) : Type 0 where
  pub events : List Event
  pub counted : length events ≡ count
  pub turns : AreTurns machine shapes (run machine before.activity events) before.answers after.answers
  pub traced : after.told ≡ before.told ++ trace (run machine before.activity events)
  pub stands : last_activity before.activity (run machine before.activity events) ≡ after.activity

-- ---- how a case ends

-- the run has ended so, which the last entry tells
pub record HasEnded (stage : Stage) (outcome : Outcome) : Type 0 where
  pub ended : outcome_of stage.activity ≡ Some outcome
  pub told : last_of stage.told ≡ Some ([], Ended outcome)

-- The run goes on, and a task of the state of that number waits for an answer. None is left for it.
pub record IsUnanswered (machine : Scope) (stage : Stage) (number attempt : ℕ) (item : Option ℕ) : Type 0 where
  pub name : List ℕ
  pub place : List ℕ
  pub goes_on : outcome_of stage.activity ≡ None
  pub waits : WaitsInTurn machine stage.activity number name place
  pub none : answer_of (stage.answers name) (item_of machine place stage.activity) ≡ None
  pub turn : IsTurnOf (table_of machine) number name (stage.answers name)
      (item_of machine place stage.activity) stage.told attempt item

-- So where the next answer, that one, gives what isn't of the shape that is declared for the task. It is taken, and not
-- used.
pub record IsMisfit (machine : Scope) (shapes : Option Declared) (stage : Stage) (number attempt : ℕ)
    (item : Option ℕ) (answer : Action) (after : Answers) : Type 0 where
  pub name : List ℕ
  pub place : List ℕ
  pub given : Tree
  pub declared : Declared
  pub goes_on : outcome_of stage.activity ≡ None
  pub waits : WaitsInTurn machine stage.activity number name place
  pub taken : IsTaken stage.answers name (item_of machine place stage.activity) answer after
  pub gives : answer ≡ Gives given
  pub is_declared : shapes ≡ Some declared
  pub misfit : has (gives_of declared name) given ≡ false
  pub turn : IsTurnOf (table_of machine) number name (stage.answers name)
      (item_of machine place stage.activity) stage.told attempt item

-- Why a case of at most so many steps ends at that stage, after that many; and what is left of its answers then.
abbrev pub EndsSo : Scope → Option Declared → ℕ → ℕ → Stage → End → Answers → Type 0
EndsSo machine shapes most count stage ends.Output after =
    ((output : Tree) × HasEnded stage (Output output)) × AreKept stage.answers after
EndsSo machine shapes most count stage ends.Failed after =
    ((error : List ℕ) × (cause : List ℕ) × HasEnded stage (FailedWith error cause)) × AreKept stage.answers after
EndsSo machine shapes most count stage (ends.NoAnswer state attempt item) after =
    (count < most) × IsUnanswered machine stage state attempt item × AreKept stage.answers after
EndsSo machine shapes most count stage (ends.AnswerShape state attempt item answer) after =
    (count < most) × IsMisfit machine shapes stage state attempt item (answer_view answer) after
EndsSo machine shapes most count stage (ends.InputShape input) after = ⊥
EndsSo machine shapes most count stage (ends.StepsSpent steps) after =
    (outcome_of stage.activity ≡ None) × (count ≡ most) × (steps ≡ most) × AreKept stage.answers after

-- A run of a case, by at most so many steps, ends so: that is what it tells, and those answers are left.
pub record IsRun (given : Case) (most : ℕ) (end : End) (told : Told) (after : Answers) : Type 0 where
  pub count : ℕ
  pub activity : Activity
  pub answers : Answers
  pub within : count ≤ most
  pub plays : Plays given.machine given.shapes count (begun given) (stage_of activity answers told)
  pub why : EndsSo given.machine given.shapes most count (stage_of activity answers told) end after

-- What a case comes to: nothing happens where its input isn't of the declared shape, else there is a run.
pub data ComesTo (given : Case) (most : ℕ) : End → Told → Answers → Type 0 where
  input_misfits : {input : trees.Tree} {after : Answers} → view input ≡ given.input
      → fits_input given.shapes given.input ≡ false → AreKept given.answers after
      → ComesTo given most (ends.InputShape input) [] after
  is_run : {end : End} {told : Told} {after : Answers} → fits_input given.shapes given.input ≡ true
      → IsRun given most end told after → ComesTo given most end told after
