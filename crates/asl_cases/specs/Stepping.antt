-- One step of a case that is played. No public clause cites this module.
use Rattle.std.specs.Prelude.{◌≡◌, ◌≤◌, ℕ, zero, suc, List, [], ◌∷◌, Bool, true, Option, Some, None, option_map}
use Rattle.std.specs.Option.{unwrap_or}
use Rattle.asl_model.specs.Certificate.{Declared, gives_of}
use Rattle.asl_model.specs.Machine.{Scope}
use Rattle.asl_model.specs.Run.{Action, Move, Gives, FailsTask, Activity, Ready, Waiting, Split, Done, Failed}
use Rattle.asl_model.specs.Run.{Activities, NoActivities, AndActivity, child_at}
use Rattle.asl_model.specs.Run.{Entry, Entered, Asked, Left, Raised, TaskFailed, BranchFailed, Retried, Caught, Ended}
use Rattle.asl_model.specs.Run.{Event, Outcome, Output, FailedWith, outcome_of}
use Rattle.asl_model.specs.Shape.{has}
use Rattle.asl_model.specs.Tree.{Tree}
use Rattle.asl_run.specs.Driving.{IsTold, Told}
use Rattle.asl_run.specs.Entries.{answer_view}
use Rattle.asl_cases.specs.Asking.{last_of}
use Rattle.asl_cases.specs.Playing.{AreKept, Answers, IsMisfit, IsUnanswered, Plays, Stage}
use Rattle.asl_cases.specs.Playing.{WaitsInTurn, place_of_turn, stage_of}
use Rattle.asl_cases.specs.declared.playing.End.{End}
use Rattle.asl_cases.specs.declared.playing.End.TheVariants as ends

-- ---- which task waits

abbrev mutual
  -- no task waits in an activity
  pub NoneWaits : Activity → Type 0
  NoneWaits (Ready n raw counts) = Unit {0}
  NoneWaits (Waiting n raw counts payload) = ⊥
  NoneWaits (Split n raw counts children) = NoneWait children
  NoneWaits (Done output) = Unit {0}
  NoneWaits (Failed error cause) = Unit {0}

  -- nor in each of these
  pub NoneWait : Activities → Type 0
  NoneWait NoActivities = Unit {0}
  NoneWait (AndActivity child others) = NoneWaits child × NoneWait others

-- nor in each but the one of that number
abbrev pub NoneWaitBut : ℕ → Activities → Type 0
NoneWaitBut i NoActivities = Unit {0}
NoneWaitBut zero (AndActivity child others) = NoneWait others
NoneWaitBut (suc i) (AndActivity child others) = NoneWaits child × NoneWaitBut i others

-- no task waits but perhaps at that place
abbrev pub NoOtherWaits : List ℕ → Activity → Type 0
NoOtherWaits [] (Ready n raw counts) = Unit {0}
NoOtherWaits [] (Waiting n raw counts payload) = Unit {0}
NoOtherWaits [] (Split n raw counts children) = NoneWait children
NoOtherWaits [] (Done output) = Unit {0}
NoOtherWaits [] (Failed error cause) = Unit {0}
NoOtherWaits (i ∷ p) (Ready n raw counts) = Unit {0}
NoOtherWaits (i ∷ p) (Waiting n raw counts payload) = ⊥
NoOtherWaits (i ∷ p) (Split n raw counts children) =
    NoneWaitBut i children × ((child : Activity) → child_at i children ≡ Some child → NoOtherWaits p child)
NoOtherWaits (i ∷ p) (Done output) = Unit {0}
NoOtherWaits (i ∷ p) (Failed error cause) = Unit {0}

-- no task waits; or one does, which was asked last, and its turn is next
pub data IsAlone (machine : Scope) (a : Activity) (told : Told) : Type 0 where
  none_waits : NoneWaits a → IsAlone machine a told
  one_waits : {place name : List ℕ} {payload : Tree} → NoOtherWaits place a → place_of_turn machine a ≡ Some place
      → last_of told ≡ Some (place, Asked name payload) → IsAlone machine a told

-- the place of the task that was asked there
abbrev pub place_in : List ℕ × Entry → List ℕ
place_in (place, Entered n input) = []
place_in (place, Asked n payload) = place
place_in (place, Left n output) = []
place_in (place, Raised n fault) = []
place_in (place, TaskFailed n error cause) = []
place_in (place, BranchFailed n child error cause) = []
place_in (place, Retried n retrier) = []
place_in (place, Caught n catcher next) = []
place_in (place, Ended outcome) = []

-- the place of the task that was asked last, where nothing has happened since; else the machine's own
abbrev pub place_asked : Told → List ℕ
place_asked told = unwrap_or (option_map place_in (last_of told)) []

-- ---- what fits

-- an answer fits the task of that name: what it gives has the shape that is declared; a failure fits
abbrev pub fits_task : Option Declared → List ℕ → Action → Bool
fits_task None n answer = true
fits_task (Some declared) n Move = true
fits_task (Some declared) n (Gives answer) = has (gives_of declared n) answer
fits_task (Some declared) n (FailsTask error cause) = true

-- ---- one step

-- that is how a case ends where the run has ended so
abbrev pub EndsWith : Option End → Option Outcome → Type 0
EndsWith None outcome = outcome ≡ None
EndsWith (Some ends.Output) outcome = (output : Tree) × (outcome ≡ Some (Output output))
EndsWith (Some ends.Failed) outcome =
    (error : List ℕ) × (cause : List ℕ) × (outcome ≡ Some (FailedWith error cause))
EndsWith (Some (ends.NoAnswer state attempt item)) outcome = ⊥
EndsWith (Some (ends.AnswerShape state attempt item answer)) outcome = ⊥
EndsWith (Some (ends.InputShape input)) outcome = ⊥
EndsWith (Some (ends.StepsSpent steps)) outcome = ⊥

-- the event was taken and told, and that is how the case ends, where it does
pub record TakesSo (machine : Scope) (before : Activity) (event : Event) (told : Told) (end : Option End)
    (after : Activity) (longer : Told) : Type 0 where
  pub is_told : IsTold machine before event told longer after
  pub ends : EndsWith end (outcome_of after)

-- why a case ends after one more step, or none, at that stage; and what is left of its answers then
abbrev pub StopsSo : Scope → Option Declared → ℕ → Stage → End → Answers → Type 0
StopsSo machine shapes count stage ends.Output after =
    ((output : Tree) × (outcome_of stage.activity ≡ Some (Output output))) × AreKept stage.answers after
StopsSo machine shapes count stage ends.Failed after =
    ((error : List ℕ) × (cause : List ℕ) × (outcome_of stage.activity ≡ Some (FailedWith error cause)))
    × AreKept stage.answers after
StopsSo machine shapes count stage (ends.NoAnswer state attempt item) after =
    (count ≡ 0) × IsUnanswered machine stage state attempt item × AreKept stage.answers after
StopsSo machine shapes count stage (ends.AnswerShape state attempt item answer) after =
    (count ≡ 0) × IsMisfit machine shapes stage state attempt item (answer_view answer) after
StopsSo machine shapes count stage (ends.InputShape input) after = ⊥
StopsSo machine shapes count stage (ends.StepsSpent steps) after = ⊥

-- a case ends so after one more step, or none
pub record Stops (machine : Scope) (shapes : Option Declared) (before : Stage) (end : End)
    (after : Stage) : Type 0 where
  pub count : ℕ
  pub answers : Answers
  pub few : count ≤ 1
  pub plays : Plays machine shapes count before (stage_of after.activity answers after.told)
  pub why : StopsSo machine shapes count (stage_of after.activity answers after.told) end after.answers

-- a case goes on after one more step
pub record GoesOn (machine : Scope) (shapes : Option Declared) (before after : Stage) : Type 0 where
  pub plays : Plays machine shapes 1 before after
  pub goes_on : outcome_of after.activity ≡ None

-- what one step leads to
abbrev pub StepsTo : Scope → Option Declared → Stage → Option End → Stage → Type 0
StepsTo machine shapes before None after = GoesOn machine shapes before after
StepsTo machine shapes before (Some end) after = Stops machine shapes before end after

-- a stage at which the run goes on, and no task waits but one that was asked last
pub record IsGoing (machine : Scope) (stage : Stage) : Type 0 where
  pub goes_on : outcome_of stage.activity ≡ None
  pub alone : IsAlone machine stage.activity stage.told

-- so, and the state of that number is the one that waits
pub record IsAsked (machine : Scope) (stage : Stage) (number : ℕ) : Type 0 where
  pub name : List ℕ
  pub place : List ℕ
  pub going : IsGoing machine stage
  pub waits : WaitsInTurn machine stage.activity number name place
