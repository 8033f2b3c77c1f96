-- Runs of what texts read as: what they end with and what is written of them, and how they fail.
use Rattle.std.specs.Prelude.{◌≡◌, ◌<◌, ◌≤◌, ◌-◌, ℕ, List, [], ◌∷◌, ◌++◌, map, length, slice_get, Bool, true, false}
use Rattle.std.specs.Prelude.{IsTrue, Option, Some, None, is_some, option_and_then, option_map, ⊤}
use Rattle.std.specs.Option.{unwrap_or}
use Rattle.std.specs.Io.KnownBytes.{Appends, Keeps}
use Rattle.serde_json.specs.Data.{Data}
use Rattle.asl_model.specs.AnswersSpelling.{ReadsAsAnswers, IsAnswersFault}
use Rattle.asl_model.specs.Certificate.{Declared, Obeys, gives_of, waiting_at}
use Rattle.asl_model.specs.Json.{ReadsAsTree, ReadsAsValue, tree_of}
use Rattle.asl_model.specs.Machine.{Scope}
use Rattle.asl_model.specs.Printed.{RunEnd, RunOutput, RunFailed, NoAnswer, StepsSpent, InputShape, AnswerShape}
use Rattle.asl_model.specs.Run.{Action, Move, Gives, FailsTask, Event, Turn, run_of, trace}
use Rattle.asl_model.specs.Run.{Activity, Output, FailedWith, start, last_activity, enabled, outcome_of}
use Rattle.asl_model.specs.Shape.{Shape, Any, has}
use Rattle.asl_model.specs.Texts.{Which, DefinitionText, DeclaredText, CertificateText, InputText, AnswersText}
use Rattle.asl_model.specs.Texts.{TextFault, NotJson, NotWhole, NoMemory, IsNoJson, ReadsAsMachine, ReadsAsDeclared}
use Rattle.asl_model.specs.TracePrinted.{trace_text}
use Rattle.asl_model.specs.Tree.{Tree}
use Rattle.asl_machine_table.specs.Table.{scope_in}
use Rattle.asl_records.specs.View.{declared_view}
use Rattle.asl_run.specs.Driving.{answers_among}
use Rattle.asl_run.specs.Entries.{answer_view}
use Rattle.asl_run.specs.declared.driving.Stop.{Stop}
use Rattle.asl_run.specs.declared.driving.Stop.TheVariants as stops
use Rattle.asl_tree.specs.View.{view}
use Rattle.asl_texts.specs.Texts.{AreText, AreTooLong}
use Rattle.asl_texts.specs.Verifying.{IsRefusedAs, MachineReads, RefusesDefinition, RefusesDeclared}
use Rattle.asl_texts.specs.View.{which_view, text_fault_view}
use Rattle.asl_texts.specs.Writing.{AppendsFront, Streams}
use Rattle.asl_texts.specs.declared.given.Given.{Given}
use Rattle.asl_texts.specs.declared.refusals.RunFault.{RunFault}
use Rattle.asl_texts.specs.declared.refusals.RunFault.TheVariants as run
use Rattle.asl_texts.specs.declared.runs.Pick.{Pick}
use Rattle.asl_texts.specs.declared.runs.Pick.TheVariants as picks

-- ---- what a run goes by

-- The texts that a run goes by: a definition, declared shapes where they are given, an input, and the answers, which
-- are the bytes that a source has left, where they are known.
pub record GivenTexts : Type 0 where
  pub definition : List ℕ
  pub declared : Option (List ℕ)
  pub input : List ℕ
  pub answers : Option (List ℕ)

-- those four
abbrev pub texts_of : List ℕ → Option (List ℕ) → List ℕ → Option (List ℕ) → GivenTexts
texts_of definition declared input answers = record {
  definition = definition;
  declared = declared;
  input = input;
  answers = answers;
}

-- What is asked for: a run of what these texts read as, whose places take turns in that order, by at most so many
-- events.
pub record RunRequest : Type 0 where
  pub texts : GivenTexts
  pub order : Pick
  pub most : ℕ

-- these three
abbrev pub request_of : GivenTexts → Pick → ℕ → RunRequest
request_of texts order most = record { texts = texts; order = order; most = most }

-- What the texts of a run read as: a machine, declared shapes where they are given, an input and answers.
pub record RunGiven : Type 0 where
  pub machine : Scope
  pub shapes : Option Declared
  pub input : Tree
  pub answers : List Action

-- these four
abbrev pub given_of : Scope → Option Declared → Tree → List Action → RunGiven
given_of machine shapes input answers = record {
  machine = machine;
  shapes = shapes;
  input = input;
  answers = answers;
}

-- what the code has read
abbrev pub given_view : Given → RunGiven
given_view given =
    given_of (scope_in given.machine) (option_map declared_view given.declared) (view given.input)
    (map answer_view given.answers.items)

-- the turns of a run that takes those events
abbrev pub turns_of : RunGiven → List Event → List Turn
turns_of given events = run_of given.machine given.input events

-- what stands after them
abbrev pub left_standing : RunGiven → List Event → Activity
left_standing given events = last_activity (start given.machine given.input) (turns_of given events)

-- the number of the place whose turn it is, of so many places
abbrev pub place_picked : Pick → ℕ → ℕ
place_picked picks.First n = 0
place_picked picks.Last n = n - 1

-- the place whose turn it is: in the order asked for it is picked out of those where an event is enabled
abbrev pub place_of_turn : Pick → Scope → Activity → Option (List ℕ)
place_of_turn order machine a =
    let wanted = enabled a machine in
    option_map (λ w. w.0) (slice_get wanted (place_picked order (length wanted)))

-- ---- what fits the declared shapes, where some are given

-- the shape of what the task of that name gives
abbrev pub shape_given : Option Declared → List ℕ → Shape
shape_given None n = Any
shape_given (Some declared) n = gives_of declared n

-- an answer fits the task of that name: what it gives has its shape; a failure fits, and so does a move, which is none
abbrev pub fits_task : Option Declared → List ℕ → Action → Bool
fits_task shapes n Move = true
fits_task shapes n (Gives answer) = has (shape_given shapes n) answer
fits_task shapes n (FailsTask error cause) = true

-- what may be given for a state of that name, whatever its payload: what fits
abbrev pub MayGive : Option Declared → List ℕ → Tree → Action → Type 0
MayGive shapes n payload answer = IsTrue (fits_task shapes n answer)

-- there is a next answer, and it fits
abbrev pub next_fits : Option Declared → List ℕ → List Action → Bool
next_fits shapes n [] = false
next_fits shapes n (answer ∷ left) = fits_task shapes n answer

-- none may be given for a state of that name, where these are left: there is no next one, or it doesn't fit
abbrev pub MayBeSilent : Option Declared → List Action → List ℕ → Tree → Type 0
MayBeSilent shapes left n payload = next_fits shapes n left ≡ false

-- an input has its shape
abbrev pub fits_input : Option Declared → Tree → Bool
fits_input None input = true
fits_input (Some declared) input = has declared.input input

-- the input and the events obey the declared shapes
abbrev pub ObeysShapes : Option Declared → Scope → Tree → List Event → Type 0
ObeysShapes None machine input events = ⊤
ObeysShapes (Some declared) machine input events = Obeys declared machine input events

-- ---- a run

-- every event of these turns was enabled
abbrev pub AllEnabled : List Turn → Type 0
AllEnabled [] = ⊤
AllEnabled (turn ∷ turns) = IsTrue (is_some turn.taken) × AllEnabled turns

-- every event of these turns was at the place whose turn it was
abbrev pub AllPicked : Pick → Scope → List Turn → Type 0
AllPicked order machine [] = ⊤
AllPicked order machine (turn ∷ turns) =
    (place_of_turn order machine turn.before ≡ Some turn.event.place) × AllPicked order machine turns

-- the name of the state that waits at the place whose turn it is; none where that place doesn't wait
abbrev pub waiting_in_turn : Pick → Scope → Activity → Option (List ℕ)
waiting_in_turn order machine a =
    option_and_then (λ place. waiting_at place a) (place_of_turn order machine a)

-- the next of the answers gives what isn't of the shape of what that task gives
pub record NextMisfits (shapes : Option Declared) (n : List ℕ) (left : List Action) : Type 0 where
  pub answer : Tree
  pub others : List Action
  pub next : left ≡ Gives answer ∷ others
  pub misfit : has (shape_given shapes n) answer ≡ false

-- why a run of at most so many events ends after that many, where that activity stands and those answers are left
abbrev pub EndsSo : RunGiven → Pick → ℕ → ℕ → Activity → List Action → RunEnd → Type 0
EndsSo given order most count a left RunOutput =
    (output : Tree) × (outcome_of a ≡ Some (Output output))
EndsSo given order most count a left RunFailed =
    (error : List ℕ) × (cause : List ℕ) × (outcome_of a ≡ Some (FailedWith error cause))
EndsSo given order most count a left NoAnswer = (outcome_of a ≡ None) × (count < most)
    × ((n : List ℕ) × (waiting_in_turn order given.machine a ≡ Some n)) × (left ≡ [])
EndsSo given order most count a left StepsSpent = (outcome_of a ≡ None) × (count ≡ most)
EndsSo given order most count a left InputShape = ⊥
EndsSo given order most count a left (AnswerShape n) = (outcome_of a ≡ None) × (count < most)
    × (waiting_in_turn order given.machine a ≡ Some n) × NextMisfits given.shapes n left

-- A run of what is given ends so, and its history is that text: at most so many events are taken, all enabled, each
-- at the place whose turn it is in the order asked for, and their answers are a front of those that are given. The
-- input and the events obey the declared shapes.
pub record IsRun (given : RunGiven) (order : Pick) (most : ℕ) (end : RunEnd)
    (text : List ℕ) : Type 0 where
  pub events : List Event
  pub left : List Action
  pub within : length events ≤ most
  pub enabled : AllEnabled (turns_of given events)
  pub picked : AllPicked order given.machine (turns_of given events)
  pub answered : given.answers ≡ answers_among events ++ left
  pub obeys : ObeysShapes given.shapes given.machine given.input events
  pub told : text ≡ trace_text (trace (turns_of given events))
  pub why : EndsSo given order most (length events) (left_standing given events) left end

-- what comes of what is given: no run where the input isn't of its shape, else a run
pub data RunsTo (given : RunGiven) (order : Pick) (most : ℕ) : RunEnd → List ℕ → Type 0 where
  input_misfits : fits_input given.shapes given.input ≡ false → RunsTo given order most InputShape []
  is_run : {end : RunEnd} {text : List ℕ} → IsRun given order most end text
      → RunsTo given order most end text

-- no answer is left
abbrev pub is_spent : List Action → Bool
is_spent [] = true
is_spent (answer ∷ left) = false

-- what a run ends with, of a machine whose states have these names, that was driven until it stopped so
abbrev pub end_at : List (List ℕ) → Bool → Stop → RunEnd
end_at names spent stops.Output = RunOutput
end_at names spent stops.Failed = RunFailed
end_at names true (stops.NoAnswer state) = NoAnswer
end_at names false (stops.NoAnswer state) = AnswerShape (unwrap_or (slice_get names state) [])
end_at names spent stops.StepsSpent = StepsSpent

-- ---- the texts of a run

-- the text of the declared shapes, where it is given, reads as these
abbrev pub ReadsAsShapes : Option (List ℕ) → Option Declared → Type 0
ReadsAsShapes None None = ⊤
ReadsAsShapes None (Some declared) = ⊥
ReadsAsShapes (Some text) None = ⊥
ReadsAsShapes (Some text) (Some declared) = ReadsAsDeclared text declared

-- known bytes read as these answers
pub record SourceReads (known : Option (List ℕ)) (answers : List Action) : Type 0 where
  pub text : List ℕ
  pub whole : AreText known text
  pub reads : ReadsAsAnswers text answers

-- that is what the texts read as
pub record ReadsTexts (texts : GivenTexts) (given : RunGiven) : Type 0 where
  pub as_machine : ReadsAsMachine texts.definition given.machine
  pub as_shapes : ReadsAsShapes texts.declared given.shapes
  pub as_input : ReadsAsTree texts.input given.input
  pub as_answers : SourceReads texts.answers given.answers

-- so for what the code has read
abbrev pub IsGiven : GivenTexts → Given → Type 0
IsGiven texts given = ReadsTexts texts (given_view given)

-- the texts read, and what they read as runs to that end with that text, as it is asked for
pub record RunsTexts (request : RunRequest) (end : RunEnd) (text : List ℕ) : Type 0 where
  pub given : RunGiven
  pub read : ReadsTexts request.texts given
  pub runs : RunsTo given request.order request.most end text

-- so, and what the sink holds has grown by that text
pub record WritesRun (request : RunRequest) (streams : Streams) (end : RunEnd) : Type 0 where
  pub text : List ℕ
  pub runs : RunsTexts request end text
  pub written : Appends streams.before streams.after text

-- ---- refused texts

-- why a text is refused as a tree: the fault stands in it, or there was no memory
pub data RefusesTree (text : List ℕ) : TextFault → Type 0 where
  tree_no_json : IsNoJson text → RefusesTree text NotJson
  tree_not_whole : {v : Data} → ReadsAsValue text v → tree_of v ≡ None → RefusesTree text NotWhole
  tree_no_memory : RefusesTree text NoMemory

-- as answers
pub data RefusesAnswers (text : List ℕ) : TextFault → Type 0 where
  answers_fault : {f : TextFault} → IsAnswersFault text f → RefusesAnswers text f
  answers_no_memory : RefusesAnswers text NoMemory

-- as declared shapes, where the text is given
abbrev pub RefusesShapes : Option (List ℕ) → TextFault → Type 0
RefusesShapes None f = ⊥
RefusesShapes (Some text) f = RefusesDeclared text f

-- known bytes are refused as answers
pub record SourceRefuses (known : Option (List ℕ)) (f : TextFault) : Type 0 where
  pub text : List ℕ
  pub whole : AreText known text
  pub refused : RefusesAnswers text f

-- the texts in front of the input read; those in front of the answers
pub record ShapesRead (texts : GivenTexts) : Type 0 where
  pub before : MachineReads texts.definition
  pub shapes : Option Declared
  pub as_shapes : ReadsAsShapes texts.declared shapes

pub record InputReads (texts : GivenTexts) : Type 0 where
  pub before : ShapesRead texts
  pub given : Tree
  pub as_input : ReadsAsTree texts.input given

-- the text is the first that is refused, and the fault stands in it; or there was no memory to read it
abbrev pub IsFirstRefused : GivenTexts → Which → TextFault → Type 0
IsFirstRefused texts DefinitionText f = RefusesDefinition texts.definition f
IsFirstRefused texts DeclaredText f = MachineReads texts.definition × RefusesShapes texts.declared f
IsFirstRefused texts CertificateText f = ⊥
IsFirstRefused texts InputText f = ShapesRead texts × RefusesTree texts.input f
IsFirstRefused texts AnswersText f = InputReads texts × SourceRefuses texts.answers f

-- ---- faults

-- why known bytes aren't read as answers
abbrev pub SourceFault : Option (List ℕ) → Bool → RunFault → Type 0
SourceFault known failed (run.Text refusal) = IsRefusedAs AnswersText (SourceRefuses known) refusal
SourceFault known failed run.TooLong = AreTooLong known
SourceFault known failed run.Read = IsTrue failed
SourceFault known failed run.Write = ⊥
SourceFault known failed run.OutOfMemory = ⊤

-- why the texts aren't read: the answers come last
abbrev pub GivesFault : GivenTexts → Bool → RunFault → Type 0
GivesFault texts failed (run.Text refusal) =
    IsFirstRefused texts (which_view refusal.which) (text_fault_view refusal.fault)
GivesFault texts failed run.TooLong = InputReads texts × AreTooLong texts.answers
GivesFault texts failed run.Read = InputReads texts × IsTrue failed
GivesFault texts failed run.Write = ⊥
GivesFault texts failed run.OutOfMemory = ⊤

-- why there is no end, and what the sink holds then: a failed write leaves a front of a run's text there, every other
-- fault what it held before
abbrev pub RunFaultStands : RunRequest → Streams → RunFault → Type 0
RunFaultStands request streams (run.Text refusal) =
    IsFirstRefused request.texts (which_view refusal.which) (text_fault_view refusal.fault)
    × Keeps streams.before streams.after
RunFaultStands request streams run.TooLong =
    InputReads request.texts × AreTooLong request.texts.answers × Keeps streams.before streams.after
RunFaultStands request streams run.Read =
    InputReads request.texts × IsTrue streams.read_failed × Keeps streams.before streams.after
RunFaultStands request streams run.Write = IsTrue streams.write_failed
    × ((end : RunEnd) × (text : List ℕ) × RunsTexts request end text
    × AppendsFront streams.before streams.after text)
RunFaultStands request streams run.OutOfMemory = Keeps streams.before streams.after
