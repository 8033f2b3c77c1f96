-- Worked runs, computed: each says what a machine does on an input with some events.
use Rattle.std.proofs.Common.{◌≡◌, map, refl, ℕ, List, [], ◌∷◌, pos, negsuc, Some, None, codes}
use Rattle.asl_model.specs.Tree.{Tree, Null, Integer, Text, Array, Object, NoTrees, NoFields, AndField, trees_of, fields_of}
use Rattle.asl_model.specs.Path.{Segment, Name}
use Rattle.asl_model.specs.Faults.{DataFlowError, ParameterPathFailure, ResultPathMatchFailure, NoChoiceMatched, IntrinsicFailure, NamesNothing, WrongKind, error_name}
use Rattle.asl_model.specs.Intrinsic.{InInput, ItemIndex, InItem}
use Rattle.asl_model.specs.Template.{Template, FromPath, ObjectTemplate, NoFieldTemplates, AndFieldTemplate}
use Rattle.asl_model.specs.Test.{Rule, Compare, NumericIs, LessThan, Constant}
use Rattle.asl_model.specs.Machine.{Retrier, Catcher, Settings, SecondsPath, TimestampPath, Scope, ScopeOf, NoStates, AndState, StateOf, Kind, Pass, Task, Choice, Wait, Succeed, Fail, Parallel, Map, NoScopes, AndScope}
use Rattle.asl_model.specs.Run.{Activity, Ready, Split, Done, Failed, NoActivities, AndActivity, activity_at, Action, Move, Gives, FailsTask, Event, Output, FailedWith, Entry, Entered, Asked, Left, Raised, TaskFailed, BranchFailed, Retried, Caught, Ended, start, run_of, trace, last_activity, step, WantsMove, WantsAnswer, enabled}
use Rattle.asl_model.proofs.ExamplesSettings.{bare, bare_retrier, bare_catcher}

-- the settings of a state that has none of these fields and ends its scope
abbrev pub ends : Settings
ends = bare None

-- the scope of one state, A
abbrev pub only : Settings → Kind → Scope
only settings kind = ScopeOf (codes "A") (AndState (codes "A") (StateOf settings kind) NoStates)

abbrev pub at : List ℕ → Action → Event
at place action = record { place = place; action = action }

abbrev pub whole : ℕ → Tree
whole n = Integer (pos n)

-- an object of one field
abbrev pub one : List ℕ → Tree → Tree
one n t = Object (AndField n t NoFields)

-- what a run tells, and what is left at its end
abbrev pub told : Scope → Tree → List Event → List (List ℕ × Entry)
told machine input events = trace (run_of machine input events)

abbrev pub left : Scope → Tree → List Event → Activity
left machine input events = last_activity (start machine input) (run_of machine input events)

-- a Pass hands its input on
abbrev pub passing : Scope
passing = only ends (Pass None)

pass_on_7 : told passing (whole 7) (at [] Move ∷ []) ≡ ([], Entered (codes "A") (whole 7)) ∷ ([], Left (codes "A") (whole 7)) ∷ ([], Ended (Output (whole 7))) ∷ []
pass_on_7 = refl

-- with `InputPath: null` the output is `{}`
input_path_null : left (only (record ends { input_path = None }) (Pass None)) (Array (trees_of (whole 1 ∷ []))) (at [] Move ∷ []) ≡ Done (Object NoFields)
input_path_null = refl

-- a Task with `ResultPath: null` asks with its input, and its output is its input
abbrev pub asking : Scope
asking = only (record ends { result_path = None }) (Task (codes "r"))

task_asks : told asking (one (codes "a") (whole 1)) (at [] Move ∷ []) ≡ ([], Entered (codes "A") (one (codes "a") (whole 1))) ∷ ([], Asked (codes "A") (one (codes "a") (whole 1))) ∷ []
task_asks = refl

task_keeps_input : left asking (one (codes "a") (whole 1)) (at [] Move ∷ at [] (Gives (Text (codes "x"))) ∷ []) ≡ Done (one (codes "a") (whole 1))
task_keeps_input = refl

-- without an answer it waits
task_wants_answer : enabled (left asking (one (codes "a") (whole 1)) (at [] Move ∷ [])) asking ≡ ([], WantsAnswer) ∷ []
task_wants_answer = refl

-- a result that can't be placed
abbrev pub placing : Scope
placing = only (record ends { result_path = Some (Name (codes "a") ∷ Name (codes "b") ∷ []) }) (Pass (Some (whole 7)))

result_misfits : told placing (one (codes "a") (Text (codes "x"))) (at [] Move ∷ []) ≡ ([], Entered (codes "A") (one (codes "a") (Text (codes "x")))) ∷ ([], Raised (codes "A") (record { error = ResultPathMatchFailure; field = codes "ResultPath" })) ∷ ([], Ended (FailedWith (codes "States.ResultPathMatchFailure") (codes "ResultPath"))) ∷ []
result_misfits = refl

-- the same machine on `{}`
result_is_placed : left placing (Object NoFields) (at [] Move ∷ []) ≡ Done (one (codes "a") (one (codes "b") (whole 7)))
result_is_placed = refl

-- the scope of one Task of that name, which ends it
abbrev pub one_task : List ℕ → Scope
one_task n = ScopeOf n (AndState n (StateOf ends (Task (codes "r"))) NoStates)

-- a Parallel of two branches, each a Task
abbrev pub beside : Scope
beside = ScopeOf (codes "P") (AndState (codes "P") (StateOf ends (Parallel (AndScope (one_task (codes "T0")) (AndScope (one_task (codes "T1")) NoScopes)))) NoStates)

abbrev pub both_asked : List Event
both_asked = at [] Move ∷ at (0 ∷ []) Move ∷ at (1 ∷ []) Move ∷ []

-- the branches' outputs stand in the order of the branches, whichever answers first
second_first : left beside (whole 5) (at [] Move ∷ at (0 ∷ []) Move ∷ at (1 ∷ []) Move ∷ at (1 ∷ []) (Gives (Text (codes "a"))) ∷ at (0 ∷ []) (Gives (whole 1)) ∷ at [] Move ∷ []) ≡ Done (Array (trees_of (whole 1 ∷ Text (codes "a") ∷ [])))
second_first = refl

first_first : left beside (whole 5) (at [] Move ∷ at (0 ∷ []) Move ∷ at (1 ∷ []) Move ∷ at (0 ∷ []) (Gives (whole 1)) ∷ at (1 ∷ []) (Gives (Text (codes "a"))) ∷ at [] Move ∷ []) ≡ Done (Array (trees_of (whole 1 ∷ Text (codes "a") ∷ [])))
first_first = refl

-- after the failure of one branch the move of the whole and the other's answer are both enabled
abbrev pub one_failed : List Event
one_failed = at [] Move ∷ at (0 ∷ []) Move ∷ at (1 ∷ []) Move ∷ at (1 ∷ []) (FailsTask (codes "E") (codes "c")) ∷ []

both_enabled : enabled (left beside (whole 5) one_failed) beside ≡ ([], WantsMove) ∷ (0 ∷ [], WantsAnswer) ∷ []
both_enabled = refl

-- the other branch goes on to its end
other_goes_on : step beside (left beside (whole 5) one_failed) (at (0 ∷ []) (Gives (whole 1))) ≡ Some (record { entries = Left (codes "T0") (whole 1) ∷ Ended (Output (whole 1)) ∷ []; after = Split (codes "P") (whole 5) [] (AndActivity (Done (whole 1)) (AndActivity (Failed (codes "E") (codes "c")) NoActivities)) })
other_goes_on = refl

-- the move of the whole tells the failed branch, and ends with `States.BranchFailed`
whole_fails : step beside (left beside (whole 5) one_failed) (at [] Move) ≡ Some (record { entries = BranchFailed (codes "P") 1 (codes "E") (codes "c") ∷ Ended (FailedWith (codes "States.BranchFailed") (codes "c")) ∷ []; after = Failed (codes "States.BranchFailed") (codes "c") })
whole_fails = refl

-- then nothing stands at the branches' places any more
branch_is_gone : activity_at (0 ∷ []) (Failed (codes "States.BranchFailed") (codes "c")) ≡ None
branch_is_gone = refl

nothing_moves : step beside (Failed (codes "States.BranchFailed") (codes "c")) (at [] Move) ≡ None
nothing_moves = refl

-- a Map over no items: its first move splits into nothing, its second joins
abbrev pub mapping : Scope
mapping = ScopeOf (codes "M") (AndState (codes "M") (StateOf ends (Map [] None passing)) NoStates)

no_items : told mapping (Array NoTrees) (at [] Move ∷ at [] Move ∷ []) ≡ ([], Entered (codes "M") (Array NoTrees)) ∷ ([], Left (codes "M") (Array NoTrees)) ∷ ([], Ended (Output (Array NoTrees))) ∷ []
no_items = refl

-- a Map whose `ItemSelector` makes a payload of the item's number and value
abbrev pub selecting : Scope
selecting = ScopeOf (codes "M") (AndState (codes "M") (StateOf ends (Map [] (Some (ObjectTemplate (AndFieldTemplate (codes "i") (FromPath ItemIndex) (AndFieldTemplate (codes "v") (FromPath (InItem [])) NoFieldTemplates)))) (one_task (codes "Q")))) NoStates)

abbrev pub numbered : ℕ → ℕ → Tree
numbered i v = Object (AndField (codes "i") (whole i) (AndField (codes "v") (whole v) NoFields))

items_in_order : told selecting (Array (trees_of (whole 1 ∷ whole 2 ∷ whole 3 ∷ []))) (at [] Move ∷ at (0 ∷ []) Move ∷ at (1 ∷ []) Move ∷ at (2 ∷ []) Move ∷ [])
    ≡ ([], Entered (codes "M") (Array (trees_of (whole 1 ∷ whole 2 ∷ whole 3 ∷ [])))) ∷ (0 ∷ [], Entered (codes "Q") (numbered 0 1)) ∷ (0 ∷ [], Asked (codes "Q") (numbered 0 1)) ∷ (1 ∷ [], Entered (codes "Q") (numbered 1 2)) ∷ (1 ∷ [], Asked (codes "Q") (numbered 1 2)) ∷ (2 ∷ [], Entered (codes "Q") (numbered 2 3)) ∷ (2 ∷ [], Asked (codes "Q") (numbered 2 3)) ∷ []
items_in_order = refl

answers_in_any_order : left selecting (Array (trees_of (whole 1 ∷ whole 2 ∷ whole 3 ∷ []))) (at [] Move ∷ at (0 ∷ []) Move ∷ at (1 ∷ []) Move ∷ at (2 ∷ []) Move ∷ at (2 ∷ []) (Gives (Text (codes "c"))) ∷ at (0 ∷ []) (Gives (Text (codes "a"))) ∷ at (1 ∷ []) (Gives (Text (codes "b"))) ∷ at [] Move ∷ [])
    ≡ Done (Array (trees_of (Text (codes "a") ∷ Text (codes "b") ∷ Text (codes "c") ∷ [])))
answers_in_any_order = refl

-- a Task with two retriers and a catcher, and a Succeed that it catches for
abbrev pub retrier : List ℕ → Retrier
retrier n = bare_retrier (n ∷ []) 1

abbrev pub catcher : List Segment → Catcher
catcher p = bare_catcher (codes "States.ALL" ∷ []) (Some p) (codes "E")

abbrev pub retrying_with : List Retrier → Scope
retrying_with retriers = ScopeOf (codes "T") (AndState (codes "E") (StateOf ends Succeed) (AndState (codes "T") (StateOf (record ends { retriers = retriers; catchers = catcher (Name (codes "err") ∷ []) ∷ [] }) (Task (codes "r"))) NoStates))

abbrev pub three_failures : List Event
three_failures = at [] Move ∷ at [] (FailsTask (codes "A") (codes "c1")) ∷ at [] Move ∷ at [] (FailsTask (codes "B") (codes "c2")) ∷ at [] Move ∷ at [] (FailsTask (codes "A") (codes "c3")) ∷ at [] Move ∷ []

abbrev pub caught : Tree
caught = one (codes "err") (Object (AndField (codes "Cause") (Text (codes "c3")) (AndField (codes "Error") (Text (codes "A")) NoFields)))

abbrev pub entered_and_asked : List Entry
entered_and_asked = Entered (codes "T") (Object NoFields) ∷ Asked (codes "T") (Object NoFields) ∷ []

abbrev pub retried_and_caught : List (List ℕ × Entry)
retried_and_caught = ([], Entered (codes "T") (Object NoFields)) ∷ ([], Asked (codes "T") (Object NoFields)) ∷ ([], TaskFailed (codes "T") (codes "A") (codes "c1")) ∷ ([], Retried (codes "T") 0)
    ∷ ([], Entered (codes "T") (Object NoFields)) ∷ ([], Asked (codes "T") (Object NoFields)) ∷ ([], TaskFailed (codes "T") (codes "B") (codes "c2")) ∷ ([], Retried (codes "T") 1)
    ∷ ([], Entered (codes "T") (Object NoFields)) ∷ ([], Asked (codes "T") (Object NoFields)) ∷ ([], TaskFailed (codes "T") (codes "A") (codes "c3")) ∷ ([], Caught (codes "T") 0 (codes "E"))
    ∷ ([], Entered (codes "E") caught) ∷ ([], Left (codes "E") caught) ∷ ([], Ended (Output caught)) ∷ []

-- each retrier counts its own attempts; the first that takes the error decides
each_counts_its_own : told (retrying_with (retrier (codes "A") ∷ retrier (codes "B") ∷ [])) (Object NoFields) three_failures ≡ retried_and_caught
each_counts_its_own = refl

-- a third retrier for all errors changes nothing
first_decides : told (retrying_with (retrier (codes "A") ∷ retrier (codes "B") ∷ retrier (codes "States.ALL") ∷ [])) (Object NoFields) three_failures ≡ retried_and_caught
first_decides = refl

-- a task may fail with the name of a data-flow fault: nothing is raised
no_raise : told (one_task (codes "A")) (whole 1) (at [] Move ∷ at [] (FailsTask (codes "States.NoChoiceMatched") (codes "c")) ∷ []) ≡ ([], Entered (codes "A") (whole 1)) ∷ ([], Asked (codes "A") (whole 1)) ∷ ([], TaskFailed (codes "A") (codes "States.NoChoiceMatched") (codes "c")) ∷ ([], Ended (FailedWith (codes "States.NoChoiceMatched") (codes "c"))) ∷ []
no_raise = refl

-- a Choice without `Default`
abbrev pub choosing : Scope
choosing = ScopeOf (codes "A") (AndState (codes "A") (StateOf ends (Choice (record { test = Compare (Name (codes "n") ∷ []) (NumericIs LessThan) (Constant (whole 0)); next = codes "B" } ∷ []) None)) (AndState (codes "B") (StateOf ends Succeed) NoStates))

no_rule_is_true : told choosing (one (codes "n") (whole 0)) (at [] Move ∷ []) ≡ ([], Entered (codes "A") (one (codes "n") (whole 0))) ∷ ([], Raised (codes "A") (record { error = NoChoiceMatched; field = codes "Choices" })) ∷ ([], Ended (FailedWith (codes "States.NoChoiceMatched") (codes "Choices"))) ∷ []
no_rule_is_true = refl

rule_is_true : left choosing (one (codes "n") (Integer (negsuc 0))) (at [] Move ∷ []) ≡ Ready (codes "B") (one (codes "n") (Integer (negsuc 0))) []
rule_is_true = refl

variable_is_missing : told choosing (Object NoFields) (at [] Move ∷ []) ≡ ([], Entered (codes "A") (Object NoFields)) ∷ ([], Raised (codes "A") (record { error = NamesNothing; field = codes "Choices" })) ∷ ([], Ended (FailedWith (codes "Path.NamesNothing") (codes "Choices"))) ∷ []
variable_is_missing = refl

-- a Wait whose `SecondsPath` names no number
seconds_no_number : told (only ends (Wait (SecondsPath []))) (Text (codes "x")) (at [] Move ∷ []) ≡ ([], Entered (codes "A") (Text (codes "x"))) ∷ ([], Raised (codes "A") (record { error = WrongKind; field = codes "SecondsPath" })) ∷ ([], Ended (FailedWith (codes "Path.WrongKind") (codes "SecondsPath"))) ∷ []
seconds_no_number = refl

-- a catcher whose error output can't be placed
abbrev pub catching_misfit : Scope
catching_misfit = ScopeOf (codes "T") (AndState (codes "E") (StateOf ends Succeed) (AndState (codes "T") (StateOf (record ends { catchers = catcher (Name (codes "x") ∷ []) ∷ [] }) (Task (codes "r"))) NoStates))

catch_misfits : told catching_misfit (whole 5) (at [] Move ∷ at [] (FailsTask (codes "a") (codes "b")) ∷ []) ≡ ([], Entered (codes "T") (whole 5)) ∷ ([], Asked (codes "T") (whole 5)) ∷ ([], TaskFailed (codes "T") (codes "a") (codes "b")) ∷ ([], Raised (codes "T") (record { error = ResultPathMatchFailure; field = codes "Catch" })) ∷ ([], Ended (FailedWith (codes "States.ResultPathMatchFailure") (codes "Catch"))) ∷ []
catch_misfits = refl

-- a result is placed in the raw input, not in the effective one
abbrev pub narrowing : Settings
narrowing = record ends { input_path = Some (Name (codes "a") ∷ []); result_path = Some (Name (codes "r") ∷ []) }

placed_in_raw_input : told (only narrowing (Task (codes "r"))) (one (codes "a") (whole 1)) (at [] Move ∷ at [] (Gives (whole 2)) ∷ [])
    ≡ ([], Entered (codes "A") (one (codes "a") (whole 1))) ∷ ([], Asked (codes "A") (whole 1)) ∷ ([], Left (codes "A") (Object (fields_of ((codes "a", whole 1) ∷ (codes "r", whole 2) ∷ [])))) ∷ ([], Ended (Output (Object (fields_of ((codes "a", whole 1) ∷ (codes "r", whole 2) ∷ []))))) ∷ []
placed_in_raw_input = refl

-- so is what a catcher tells
caught_in_raw_input : left (ScopeOf (codes "A") (AndState (codes "A") (StateOf (record narrowing { catchers = catcher (Name (codes "e") ∷ []) ∷ [] }) (Task (codes "r"))) NoStates)) (one (codes "a") (whole 1)) (at [] Move ∷ at [] (FailsTask (codes "x") (codes "y")) ∷ [])
    ≡ Ready (codes "E") (Object (fields_of ((codes "a", whole 1) ∷ (codes "e", Object (fields_of ((codes "Cause", Text (codes "y")) ∷ (codes "Error", Text (codes "x")) ∷ []))) ∷ []))) []
caught_in_raw_input = refl

-- all fields of the data flow, in their order
abbrev pub all_fields : Settings
all_fields = record (bare (Some (codes "B"))) {
  input_path = Some (Name (codes "a") ∷ []);
  parameters = Some (ObjectTemplate (AndFieldTemplate (codes "p") (FromPath (InInput [])) NoFieldTemplates));
  result_selector = Some (ObjectTemplate (AndFieldTemplate (codes "s") (FromPath (InInput (Name (codes "x") ∷ []))) NoFieldTemplates));
  result_path = Some (Name (codes "r") ∷ []);
  output_path = Some (Name (codes "r") ∷ Name (codes "s") ∷ []);
}

in_this_order : told (only all_fields (Task (codes "r"))) (one (codes "a") (whole 1)) (at [] Move ∷ at [] (Gives (one (codes "x") (whole 2))) ∷ [])
    ≡ ([], Entered (codes "A") (one (codes "a") (whole 1))) ∷ ([], Asked (codes "A") (one (codes "p") (whole 1))) ∷ ([], Left (codes "A") (whole 2)) ∷ []
in_this_order = refl

-- what a fault in each field is
abbrev pub faults_in : Settings → Tree → List (List ℕ × Entry)
faults_in settings input = told (only settings (Pass None)) input (at [] Move ∷ [])

abbrev pub raises : Tree → DataFlowError → List ℕ → List (List ℕ × Entry)
raises input error field = ([], Entered (codes "A") input) ∷ ([], Raised (codes "A") (record { error = error; field = field })) ∷ ([], Ended (FailedWith (error_name error) field)) ∷ []

abbrev pub missing : List Segment
missing = Name (codes "no") ∷ []

abbrev pub missing_field : Template
missing_field = ObjectTemplate (AndFieldTemplate (codes "x") (FromPath (InInput missing)) NoFieldTemplates)

fault_in_input_path : faults_in (record ends { input_path = Some missing }) Null ≡ raises Null NamesNothing (codes "InputPath")
fault_in_input_path = refl

fault_in_output_path : faults_in (record ends { output_path = Some missing }) Null ≡ raises Null NamesNothing (codes "OutputPath")
fault_in_output_path = refl

fault_in_parameters : faults_in (record ends { parameters = Some missing_field }) Null ≡ raises Null ParameterPathFailure (codes "Parameters")
fault_in_parameters = refl

fault_in_result_selector : faults_in (record ends { result_selector = Some missing_field }) Null ≡ raises Null ParameterPathFailure (codes "ResultSelector")
fault_in_result_selector = refl

fault_in_timestamp_path : told (only ends (Wait (TimestampPath []))) (whole 1) (at [] Move ∷ []) ≡ raises (whole 1) WrongKind (codes "TimestampPath")
fault_in_timestamp_path = refl

timestamp_is_text : left (only ends (Wait (TimestampPath []))) (Text (codes "x")) (at [] Move ∷ []) ≡ Done (Text (codes "x"))
timestamp_is_text = refl

seconds_are_whole : left (only ends (Wait (SecondsPath []))) (whole 1) (at [] Move ∷ []) ≡ Done (whole 1)
seconds_are_whole = refl

fault_in_items_path : told (only ends (Map [] None passing)) (whole 1) (at [] Move ∷ []) ≡ raises (whole 1) WrongKind (codes "ItemsPath")
fault_in_items_path = refl

fault_in_item_selector : told (only ends (Map [] (Some missing_field) passing)) (Array (trees_of (Null ∷ []))) (at [] Move ∷ []) ≡ raises (Array (trees_of (Null ∷ []))) ParameterPathFailure (codes "ItemSelector")
fault_in_item_selector = refl

-- the names of the errors
error_names : map error_name (ParameterPathFailure ∷ ResultPathMatchFailure ∷ NoChoiceMatched ∷ IntrinsicFailure ∷ NamesNothing ∷ WrongKind ∷ []) ≡ codes "States.ParameterPathFailure" ∷ codes "States.ResultPathMatchFailure" ∷ codes "States.NoChoiceMatched" ∷ codes "States.IntrinsicFailure" ∷ codes "Path.NamesNothing" ∷ codes "Path.WrongKind" ∷ []
error_names = refl

-- a data-flow fault goes through the state's own retriers and catchers
fault_is_retried : left (only (record ends { output_path = Some missing; retriers = retrier (codes "Path.NamesNothing") ∷ [] }) (Pass None)) Null (at [] Move ∷ []) ≡ Ready (codes "A") Null (1 ∷ [])
fault_is_retried = refl

fault_is_caught : left (only (record ends { output_path = Some missing; catchers = catcher [] ∷ [] }) (Pass None)) Null (at [] Move ∷ []) ≡ Ready (codes "E") (Object (fields_of ((codes "Cause", Text (codes "OutputPath")) ∷ (codes "Error", Text (codes "Path.NamesNothing")) ∷ []))) []
fault_is_caught = refl

-- a new execution of a state counts from 0
abbrev pub looping : Scope
looping = ScopeOf (codes "A") (AndState (codes "A") (StateOf (record ends { next = Some (codes "A"); retriers = retrier (codes "x") ∷ [] }) (Task (codes "r"))) NoStates)

counts_begin_anew : left looping Null (at [] Move ∷ at [] (FailsTask (codes "x") []) ∷ at [] Move ∷ at [] (Gives Null) ∷ at [] Move ∷ at [] (FailsTask (codes "x") []) ∷ []) ≡ Ready (codes "A") Null (1 ∷ [])
counts_begin_anew = refl

count_is_spent : left looping Null (at [] Move ∷ at [] (FailsTask (codes "x") []) ∷ at [] Move ∷ at [] (FailsTask (codes "x") []) ∷ []) ≡ Failed (codes "x") []
count_is_spent = refl

-- the first rule that is true decides, before `Default`
abbrev pub below_number : ℕ → List ℕ → Rule
below_number n next = record { test = Compare [] (NumericIs LessThan) (Constant (whole n)); next = next }

abbrev pub deciding : Scope
deciding = only ends (Choice (below_number 5 (codes "B") ∷ below_number 9 (codes "C") ∷ []) (Some (codes "D")))

first_rule : left deciding (whole 3) (at [] Move ∷ []) ≡ Ready (codes "B") (whole 3) []
first_rule = refl

second_rule : left deciding (whole 7) (at [] Move ∷ []) ≡ Ready (codes "C") (whole 7) []
second_rule = refl

default_rule : left deciding (whole 9) (at [] Move ∷ []) ≡ Ready (codes "D") (whole 9) []
default_rule = refl

-- a Succeed ends its scope with what `OutputPath` leaves; a Fail with its error and cause
succeeds : left (only (record ends { output_path = Some (Name (codes "a") ∷ []) }) Succeed) (one (codes "a") (whole 1)) (at [] Move ∷ []) ≡ Done (whole 1)
succeeds = refl

fails : told (only ends (Fail (codes "e") (codes "c"))) Null (at [] Move ∷ []) ≡ ([], Entered (codes "A") Null) ∷ ([], Ended (FailedWith (codes "e") (codes "c"))) ∷ []
fails = refl

-- the error of a Fail goes through no retrier and no catcher
fail_is_not_caught : left (only (record ends { retriers = retrier (codes "e") ∷ []; catchers = catcher [] ∷ [] }) (Fail (codes "e") (codes "c"))) Null (at [] Move ∷ []) ≡ Failed (codes "e") (codes "c")
fail_is_not_caught = refl

-- of two branches that failed the first is told
first_failed : step beside (left beside Null (at [] Move ∷ at (0 ∷ []) Move ∷ at (1 ∷ []) Move ∷ at (1 ∷ []) (FailsTask (codes "E") (codes "c")) ∷ at (0 ∷ []) (FailsTask (codes "F") (codes "d")) ∷ [])) (at [] Move) ≡ Some (record { entries = BranchFailed (codes "P") 0 (codes "F") (codes "d") ∷ Ended (FailedWith (codes "States.BranchFailed") (codes "d")) ∷ []; after = Failed (codes "States.BranchFailed") (codes "d") })
first_failed = refl

-- a Map fails with its child's own error
map_fails : step selecting (left selecting (Array (trees_of (Null ∷ []))) (at [] Move ∷ at (0 ∷ []) Move ∷ at (0 ∷ []) (FailsTask (codes "E") (codes "c")) ∷ [])) (at [] Move) ≡ Some (record { entries = BranchFailed (codes "M") 0 (codes "E") (codes "c") ∷ Ended (FailedWith (codes "E") (codes "c")) ∷ []; after = Failed (codes "E") (codes "c") })
map_fails = refl

-- while a child is running and none has failed, the whole doesn't move
not_yet : step beside (left beside Null (at [] Move ∷ at (0 ∷ []) Move ∷ at (0 ∷ []) (Gives Null) ∷ [])) (at [] Move) ≡ None
not_yet = refl

-- a branch that is done takes no more events, and a task that waits doesn't move
done_takes_nothing : step beside (left beside Null (at [] Move ∷ at (0 ∷ []) Move ∷ at (0 ∷ []) (Gives Null) ∷ [])) (at (0 ∷ []) (Gives Null)) ≡ None
done_takes_nothing = refl

waiting_stays : step beside (left beside Null both_asked) (at (0 ∷ []) Move) ≡ None
waiting_stays = refl

-- a caught error leaves no counts behind: the catcher's state begins anew
abbrev pub spent_and_caught : Activity
spent_and_caught = left (retrying_with (retrier (codes "x") ∷ [])) (Object NoFields) (at [] Move ∷ at [] (FailsTask (codes "x") []) ∷ at [] Move ∷ at [] (FailsTask (codes "x") []) ∷ [])

catch_forgets_counts : spent_and_caught ≡ Ready (codes "E") (one (codes "err") (Object (fields_of ((codes "Cause", Text []) ∷ (codes "Error", Text (codes "x")) ∷ [])))) []
catch_forgets_counts = refl

-- a Parallel whose failed join is caught: its branches are gone, and an answer that comes later isn't taken
abbrev pub beside_caught : Scope
beside_caught = ScopeOf (codes "P") (AndState (codes "E") (StateOf ends Succeed) (AndState (codes "P") (StateOf (record ends { catchers = catcher [] ∷ [] }) (Parallel (AndScope (one_task (codes "T0")) (AndScope (one_task (codes "T1")) NoScopes)))) NoStates))

abbrev pub after_caught_join : Activity
after_caught_join = left beside_caught Null (at [] Move ∷ at (0 ∷ []) Move ∷ at (1 ∷ []) Move ∷ at (1 ∷ []) (FailsTask (codes "F") (codes "c")) ∷ at [] Move ∷ [])

join_is_caught : after_caught_join ≡ Ready (codes "E") (Object (fields_of ((codes "Cause", Text (codes "c")) ∷ (codes "Error", Text (codes "States.BranchFailed")) ∷ []))) []
join_is_caught = refl

branches_are_gone : activity_at (0 ∷ []) after_caught_join ≡ None
branches_are_gone = refl

late_answer : step beside_caught after_caught_join (at (0 ∷ []) (Gives Null)) ≡ None
late_answer = refl

-- `ItemSelector` looks into the Map's effective input; items, branches and rules are taken from it too
abbrev pub inside_a : Settings
inside_a = record ends { input_path = Some (Name (codes "a") ∷ []) }

abbrev pub selects_beside : Template
selects_beside = ObjectTemplate (AndFieldTemplate (codes "k") (FromPath (InInput (Name (codes "k") ∷ []))) (AndFieldTemplate (codes "v") (FromPath (InItem [])) NoFieldTemplates))

abbrev pub list_beside_k : Tree
list_beside_k = one (codes "a") (Object (fields_of ((codes "k", whole 7) ∷ (codes "l", Array (trees_of (whole 1 ∷ []))) ∷ [])))

selector_looks_into_input : activity_at (0 ∷ []) (left (only inside_a (Map (Name (codes "l") ∷ []) (Some selects_beside) passing)) list_beside_k (at [] Move ∷ [])) ≡ Some (Ready (codes "A") (Object (fields_of ((codes "k", whole 7) ∷ (codes "v", whole 1) ∷ []))) [])
selector_looks_into_input = refl

branch_gets_effective_input : activity_at (0 ∷ []) (left (only inside_a (Parallel (AndScope passing NoScopes))) (one (codes "a") (whole 1)) (at [] Move ∷ [])) ≡ Some (Ready (codes "A") (whole 1) [])
branch_gets_effective_input = refl

rules_look_into_effective_input : left (only inside_a (Choice (below_number 5 (codes "B") ∷ []) None)) (one (codes "a") (whole 3)) (at [] Move ∷ []) ≡ Ready (codes "B") (whole 3) []
rules_look_into_effective_input = refl

-- a Wait's output is its effective input, not what it waits for; a Pass with `Result` looks at `Parameters` all the same
wait_keeps_input : left (only ends (Wait (SecondsPath (Name (codes "s") ∷ [])))) (one (codes "s") (whole 1)) (at [] Move ∷ []) ≡ Done (one (codes "s") (whole 1))
wait_keeps_input = refl

result_needs_parameters : told (only (record ends { parameters = Some missing_field }) (Pass (Some (whole 7)))) Null (at [] Move ∷ []) ≡ raises Null ParameterPathFailure (codes "Parameters")
result_needs_parameters = refl
