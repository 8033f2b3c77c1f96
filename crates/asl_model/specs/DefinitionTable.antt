-- The fields of a definition, a line a field (States Language, "Structure of a State Machine", "State Types"), and what
-- can be wrong with the value of one.
use Rattle.std.specs.Prelude.{ℕ, ℤ, pos, List, [], ◌∷◌, ◌++◌, Bool, true, false, ◌&&◌, int_lt, int_le, is_some, is_none}
use Rattle.std.specs.Prelude.{if◌then◌else◌, Option, Some, None, option_map, option_and_then, bytes_eq, codes}
use Rattle.std.specs.Option.{unwrap_or}
use Rattle.serde_json.specs.Data as json
use Rattle.serde_json.specs.Data.{Data, Items, Num}
use Rattle.serde_json.specs.Find.{as_i64, as_str, as_bool, as_null, as_number, as_array, as_object}
use Rattle.asl_model.specs.Tree.{Tree}
use Rattle.asl_model.specs.Json.{tree_of}
use Rattle.asl_model.specs.PathSpelling.{path_of}
use Rattle.asl_model.specs.TemplateSpelling.{template_of}
use Rattle.asl_model.specs.RuleSpelling.{rule_of}

-- what can be wrong with a definition
pub data DefFault : Type 0 where
  -- the machine or a state is no object
  NotObject : DefFault
  MissingField : DefFault
  -- a value of another kind, a number that is too small, or one field too many of those that exclude each other
  WrongKind : DefFault
  UnknownField : DefFault
  -- a field or a query language that the profile leaves out
  LeftOut : DefFault
  UnknownType : DefFault
  NameTooLong : DefFault
  DuplicateName : DefFault
  NoSuchState : DefFault
  -- both `Next` and `"End": true`, or neither
  NextOrEnd : DefFault
  BadPath : DefFault
  BadTemplate : DefFault
  BadRule : DefFault
  -- `States.ALL` that doesn't stand alone, or not last
  BadErrorEquals : DefFault
  EmptyList : DefFault
  HeartbeatNotSmaller : DefFault
  -- more states than the limit
  TooLarge : DefFault
  -- a number that isn't whole, or out of range
  NotWhole : DefFault

-- ---- the table

-- what the value of a field has to be
pub data Wanted : Type 0 where
  TextValue : Wanted
  -- a whole number above 0; 0 or more
  PositiveValue : Wanted
  CountValue : Wanted
  -- any JSON number
  NumberValue : Wanted
  -- true or false
  TruthValue : Wanted
  -- the text `JSONPath`
  LanguageValue : Wanted
  -- a reference path; a reference path or null
  PathValue : Wanted
  PathOrNullValue : Wanted
  -- a payload template; one in which paths to a Map's item are allowed
  TemplateValue : Wanted
  ItemTemplateValue : Wanted
  -- any JSON value of the profile; any such object
  AnyValue : Wanted
  ConfigValue : Wanted
  -- an object of states; a machine of its own
  StatesValue : Wanted
  ScopeValue : Wanted
  -- a list, not empty, of machines of their own; of rules; of texts
  ScopesValue : Wanted
  RulesValue : Wanted
  NamesValue : Wanted
  -- a list of retriers; of catchers
  RetriersValue : Wanted
  CatchersValue : Wanted

-- a field that an object may have: what its value is, and whether it has to be there
pub record Row : Type 0 where
  pub field : List ℕ
  pub wanted : Wanted
  pub required : Bool

-- a field that has to be there
abbrev required : List ℕ → Wanted → Row
required field wanted = record { field = field; wanted = wanted; required = true }

-- a field that may be absent
abbrev optional : List ℕ → Wanted → Row
optional field wanted = record { field = field; wanted = wanted; required = false }

-- a branch of a Parallel
abbrev pub branch_rows : List Row
branch_rows =
    required (codes "StartAt") TextValue
    ∷ required (codes "States") StatesValue
    ∷ optional (codes "Comment") TextValue
    ∷ optional (codes "QueryLanguage") LanguageValue
    ∷ []

-- the machine
abbrev pub machine_rows : List Row
machine_rows =
    optional (codes "Version") TextValue
    ∷ optional (codes "TimeoutSeconds") PositiveValue
    ∷ branch_rows

-- the processor of a Map
abbrev pub processor_rows : List Row
processor_rows =
    optional (codes "ProcessorConfig") ConfigValue
    ∷ branch_rows

-- a state of any type
abbrev pub every_state_rows : List Row
every_state_rows =
    required (codes "Type") TextValue
    ∷ optional (codes "Comment") TextValue
    ∷ optional (codes "QueryLanguage") LanguageValue
    ∷ []

-- of all types but Fail
abbrev pub path_rows : List Row
path_rows =
    optional (codes "InputPath") PathOrNullValue
    ∷ optional (codes "OutputPath") PathOrNullValue
    ∷ every_state_rows

-- of Task, Parallel, Map, Pass, Wait
abbrev pub next_rows : List Row
next_rows =
    optional (codes "Next") TextValue
    ∷ optional (codes "End") TruthValue
    ∷ path_rows

-- of Task, Parallel, Map, Pass
abbrev pub result_rows : List Row
result_rows =
    optional (codes "ResultPath") PathOrNullValue
    ∷ next_rows

-- of Task, Parallel, Map
abbrev pub trouble_rows : List Row
trouble_rows =
    optional (codes "ResultSelector") TemplateValue
    ∷ optional (codes "Retry") RetriersValue
    ∷ optional (codes "Catch") CatchersValue
    ∷ result_rows

-- all fields of a Pass
abbrev pub pass_rows : List Row
pass_rows =
    optional (codes "Parameters") TemplateValue
    ∷ optional (codes "Result") AnyValue
    ∷ result_rows

-- of a Task
abbrev pub task_rows : List Row
task_rows =
    optional (codes "Parameters") TemplateValue
    ∷ required (codes "Resource") TextValue
    ∷ optional (codes "TimeoutSeconds") PositiveValue
    ∷ optional (codes "HeartbeatSeconds") PositiveValue
    ∷ trouble_rows

-- of a Choice
abbrev pub choice_rows : List Row
choice_rows =
    required (codes "Choices") RulesValue
    ∷ optional (codes "Default") TextValue
    ∷ path_rows

-- of a Wait
abbrev pub wait_rows : List Row
wait_rows =
    optional (codes "Seconds") CountValue
    ∷ optional (codes "SecondsPath") PathValue
    ∷ optional (codes "Timestamp") TextValue
    ∷ optional (codes "TimestampPath") PathValue
    ∷ next_rows

-- of a Fail
abbrev pub fail_rows : List Row
fail_rows =
    optional (codes "Error") TextValue
    ∷ optional (codes "Cause") TextValue
    ∷ every_state_rows

-- of a Parallel
abbrev pub parallel_rows : List Row
parallel_rows =
    optional (codes "Parameters") TemplateValue
    ∷ required (codes "Branches") ScopesValue
    ∷ trouble_rows

-- of a Map, the older names included
abbrev pub map_rows : List Row
map_rows =
    optional (codes "ItemProcessor") ScopeValue
    ∷ optional (codes "Iterator") ScopeValue
    ∷ optional (codes "ItemsPath") PathValue
    ∷ optional (codes "ItemSelector") ItemTemplateValue
    ∷ optional (codes "Parameters") ItemTemplateValue
    ∷ optional (codes "MaxConcurrency") CountValue
    ∷ trouble_rows

-- an element of `Retry`
abbrev pub retrier_rows : List Row
retrier_rows =
    required (codes "ErrorEquals") NamesValue
    ∷ optional (codes "IntervalSeconds") PositiveValue
    ∷ optional (codes "MaxAttempts") CountValue
    ∷ optional (codes "BackoffRate") NumberValue
    ∷ optional (codes "MaxDelaySeconds") PositiveValue
    ∷ optional (codes "JitterStrategy") TextValue
    ∷ optional (codes "Comment") TextValue
    ∷ []

-- an element of `Catch`
abbrev pub catcher_rows : List Row
catcher_rows =
    required (codes "ErrorEquals") NamesValue
    ∷ required (codes "Next") TextValue
    ∷ optional (codes "ResultPath") PathOrNullValue
    ∷ optional (codes "Comment") TextValue
    ∷ []

-- the fields that the profile leaves out, in every object of the table
abbrev pub left_out_fields : List (List ℕ)
left_out_fields =
    codes "Arguments" ∷ codes "Assign" ∷ codes "CausePath" ∷ codes "Condition" ∷ codes "Credentials" ∷ codes "ErrorPath"
    ∷ codes "HeartbeatSecondsPath" ∷ codes "ItemBatcher" ∷ codes "ItemReader" ∷ codes "Items" ∷ codes "Label"
    ∷ codes "MaxConcurrencyPath" ∷ codes "Output" ∷ codes "ResultWriter" ∷ codes "TimeoutSecondsPath"
    ∷ codes "ToleratedFailureCount" ∷ codes "ToleratedFailureCountPath" ∷ codes "ToleratedFailurePercentage"
    ∷ codes "ToleratedFailurePercentagePath" ∷ []

-- ---- the types of states

-- the eight types of states
pub data StateType : Type 0 where
  PassState : StateType
  TaskState : StateType
  ChoiceState : StateType
  WaitState : StateType
  SucceedState : StateType
  FailState : StateType
  ParallelState : StateType
  MapState : StateType

-- the type of that name
abbrev pub type_named : List ℕ → Option StateType
type_named s =
    if bytes_eq s (codes "Pass") then Some PassState else
    (if bytes_eq s (codes "Task") then Some TaskState else
    (if bytes_eq s (codes "Choice") then Some ChoiceState else
    (if bytes_eq s (codes "Wait") then Some WaitState else
    (if bytes_eq s (codes "Succeed") then Some SucceedState else
    (if bytes_eq s (codes "Fail") then Some FailState else
    (if bytes_eq s (codes "Parallel") then Some ParallelState else
    (if bytes_eq s (codes "Map") then Some MapState else None)))))))

-- the fields that a state of the type may have
abbrev pub rows_of : StateType → List Row
rows_of PassState = pass_rows
rows_of TaskState = task_rows
rows_of ChoiceState = choice_rows
rows_of WaitState = wait_rows
rows_of SucceedState = path_rows
rows_of FailState = fail_rows
rows_of ParallelState = parallel_rows
rows_of MapState = map_rows

-- ---- what is wrong with a value

-- a value of another kind; of a number that isn't whole, that is told
abbrev pub wrong_kind : Data → DefFault
wrong_kind v = if is_some (as_number v) && is_none (option_and_then as_i64 (as_number v)) then NotWhole else WrongKind

-- that fault, unless the test holds
abbrev pub unless : Bool → DefFault → List DefFault
unless true fault = []
unless false fault = fault ∷ []

-- the whole number that a value is
abbrev pub as_whole : Data → Option ℤ
as_whole v = option_and_then as_i64 (as_number v)

-- there is a value, and it passes the test
abbrev pub passes : {A : Type 0} → (A → Bool) → Option A → Bool
passes test None = false
passes test (Some a) = test a

-- what is wrong with a value where a query language is wanted: the one that is read is JSONPath
abbrev pub language_misfits : Data → Option (List ℕ) → List DefFault
language_misfits v None = wrong_kind v ∷ []
language_misfits v (Some s) = unless (bytes_eq s (codes "JSONPath")) LeftOut

-- where a reference path is wanted
abbrev pub path_misfits : Data → Option (List ℕ) → List DefFault
path_misfits v None = wrong_kind v ∷ []
path_misfits v (Some s) = unless (is_some (path_of s)) BadPath

-- where a reference path or null is wanted
abbrev pub path_or_null_misfits : Data → List DefFault
path_or_null_misfits v = if is_some (as_null v) then [] else path_misfits v (as_str v)

-- where a template is wanted; the first argument says whether paths to a Map's item are allowed
abbrev pub template_misfits : Bool → Option Tree → List DefFault
template_misfits item None = NotWhole ∷ []
template_misfits item (Some t) = unless (is_some (template_of item t)) BadTemplate

-- where a choice rule is wanted
abbrev pub rule_misfits : Option Tree → List DefFault
rule_misfits None = NotWhole ∷ []
rule_misfits (Some t) = unless (is_some (rule_of t)) BadRule

-- where an object is wanted, whatever is in it
abbrev pub object_misfits : Data → List DefFault
object_misfits v = unless (is_some (as_object v)) (wrong_kind v)

-- of a list, for what is wrong with its elements
abbrev pub list_misfits : (Items → List DefFault) → Data → List DefFault
list_misfits of_elements v = unwrap_or (option_map of_elements (as_array v)) (wrong_kind v ∷ [])

-- nothing is asked of the elements; there is one
abbrev pub any_elements : Items → List DefFault
any_elements vs = []

abbrev pub some_elements : Items → List DefFault
some_elements json.no_items = EmptyList ∷ []
some_elements (json.item v vs) = []

-- what is wrong with each of the elements
abbrev pub wrong_with_each : (Data → List DefFault) → Items → List DefFault
wrong_with_each of_element json.no_items = []
wrong_with_each of_element (json.item v vs) = of_element v ++ wrong_with_each of_element vs

-- where a text is wanted
abbrev pub text_misfits : Data → List DefFault
text_misfits v = unless (is_some (as_str v)) (wrong_kind v)

-- all that is wrong with a value where that is wanted; what is wrong inside machines of their own, retriers and
-- catchers is said of these
abbrev pub misfits : Wanted → Data → List DefFault
misfits TextValue v = text_misfits v
misfits PositiveValue v = unless (passes (int_lt (pos 0)) (as_whole v)) (wrong_kind v)
misfits CountValue v = unless (passes (int_le (pos 0)) (as_whole v)) (wrong_kind v)
misfits NumberValue v = unless (is_some (as_number v)) WrongKind
misfits TruthValue v = unless (is_some (as_bool v)) (wrong_kind v)
misfits LanguageValue v = language_misfits v (as_str v)
misfits PathValue v = path_misfits v (as_str v)
misfits PathOrNullValue v = path_or_null_misfits v
misfits TemplateValue v = template_misfits false (tree_of v)
misfits ItemTemplateValue v = template_misfits true (tree_of v)
misfits AnyValue v = unless (is_some (tree_of v)) NotWhole
misfits ConfigValue v = if is_some (tree_of v) then object_misfits v else NotWhole ∷ []
misfits StatesValue v = object_misfits v
misfits ScopeValue v = object_misfits v
misfits ScopesValue v = list_misfits some_elements v
misfits RulesValue v = list_misfits (λ vs. some_elements vs ++ wrong_with_each (λ r. rule_misfits (tree_of r)) vs) v
misfits NamesValue v = list_misfits (λ vs. some_elements vs ++ wrong_with_each text_misfits vs) v
misfits RetriersValue v = list_misfits any_elements v
misfits CatchersValue v = list_misfits any_elements v
