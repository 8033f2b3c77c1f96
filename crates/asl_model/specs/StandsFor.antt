-- Which machine a JSON value stands for, and all that is wrong with it (States Language, "Structure of a State
-- Machine", "State Types"). Every value has here a machine, with defaults where something is wrong, and a list of
-- complaints. It stands for its machine where that list is empty.
-- Scopes nest: what is said of a field with scopes in it is found by a walk over the fields, by the field's name.
use Rattle.std.specs.Prelude.{◌≡◌, ℕ, ℤ, suc, List, [], ◌∷◌, ◌++◌, map, length, Bool, true, false, ◌&&◌}
use Rattle.std.specs.Prelude.{◌||◌, not, ◌==◌, ◌/◌, nat_abs, nat_lt, int_lt, is_some, if◌then◌else◌}
use Rattle.std.specs.Prelude.{Option, Some, None, option_map, option_and_then, bytes_eq, codes}
use Rattle.std.specs.Option.{unwrap_or}
use Rattle.std.specs.Float.{two_to}
use Rattle.std.specs.List.{Contains, filter_map}
use Rattle.serde_json.specs.Data as json
use Rattle.serde_json.specs.Data.{Data, Items, Members, Num}
use Rattle.serde_json.specs.Find.{get_member, as_null, as_bool, as_number, as_str, as_array, as_object}
use Rattle.asl_model.specs.Path.{Segment}
use Rattle.asl_model.specs.Template.{Template}
use Rattle.asl_model.specs.Test.{Rule}
use Rattle.asl_model.specs.Machine.{Retrier, Catcher, Settings, Delay, Seconds, SecondsPath, Timestamp, TimestampPath}
use Rattle.asl_model.specs.Machine.{Scope, ScopeOf, States, NoStates, AndState, State, StateOf, Kind, Pass, Task}
use Rattle.asl_model.specs.Machine.{Choice, Wait, Succeed, Fail, Parallel, Map, Scopes, NoScopes, AndScope, empty_scope}
use Rattle.asl_model.specs.Json.{tree_of}
use Rattle.asl_model.specs.PathSpelling.{path_of}
use Rattle.asl_model.specs.ShapeSpelling.{is_among}
use Rattle.asl_model.specs.TemplateSpelling.{template_of}
use Rattle.asl_model.specs.RuleSpelling.{rule_of}
use Rattle.asl_model.specs.DefinitionTable.{DefFault, NotObject, MissingField, WrongKind, UnknownField, LeftOut}
use Rattle.asl_model.specs.DefinitionTable.{UnknownType, NameTooLong, DuplicateName, NoSuchState, NextOrEnd, BadPath}
use Rattle.asl_model.specs.DefinitionTable.{BadTemplate, BadRule, BadErrorEquals, EmptyList, HeartbeatNotSmaller}
use Rattle.asl_model.specs.DefinitionTable.{TooLarge, NotWhole, Row, machine_rows, branch_rows, processor_rows}
use Rattle.asl_model.specs.DefinitionTable.{every_state_rows, retrier_rows, catcher_rows, left_out_fields, StateType}
use Rattle.asl_model.specs.DefinitionTable.{PassState, TaskState, ChoiceState, WaitState, SucceedState, FailState}
use Rattle.asl_model.specs.DefinitionTable.{ParallelState, MapState, type_named, rows_of, wrong_kind, misfits, as_whole}

-- ---- look-ups in an object

-- the text in a field
abbrev pub text_at : List ℕ → Members → Option (List ℕ)
text_at field ms = option_and_then as_str (get_member field ms)

-- the object has the field
abbrev pub is_given : List ℕ → Members → Bool
is_given field ms = is_some (get_member field ms)

-- the members of an object, the elements of a list; none of anything else
abbrev pub members_in : Data → Members
members_in v = unwrap_or (as_object v) json.no_members

abbrev pub items_in : Data → Items
items_in v = unwrap_or (as_array v) json.no_items

-- the elements of the list in a field; none where it is absent or no list
abbrev pub items_at : List ℕ → Members → Items
items_at field ms = unwrap_or (option_map items_in (get_member field ms)) json.no_items

-- the elements as a list
abbrev pub listed : Items → List Data
listed json.no_items = []
listed (json.item v vs) = v ∷ listed vs

-- the names of the members, in order
abbrev pub names_of : Members → List (List ℕ)
names_of json.no_members = []
names_of (json.member n v ms) = n ∷ names_of ms

-- the names of the states of a scope
abbrev pub state_names : Members → List (List ℕ)
state_names ms = names_of (unwrap_or (option_map members_in (get_member (codes "States") ms)) json.no_members)

-- the type of a state, where it is one
abbrev pub type_of : Members → Option StateType
type_of ms = option_and_then type_named (text_at (codes "Type") ms)

-- ---- what is read

-- a field with a path or null: absent it is the path `$`, None is null
abbrev pub path_in : Data → Option (List Segment)
path_in v = if is_some (as_null v) then None else Some (unwrap_or (option_and_then path_of (as_str v)) [])

-- a field with a path or null: None is null, and absent it is `$`
abbrev pub path_or_null_at : List ℕ → Members → Option (List Segment)
path_or_null_at field ms = unwrap_or (option_map path_in (get_member field ms)) (Some [])

-- a field with a path: absent it is `$`
abbrev pub path_at : List ℕ → Members → List Segment
path_at field ms = unwrap_or (option_and_then path_of (text_at field ms)) []

-- a field with a template; the first argument says whether paths to a Map's item are allowed
abbrev pub template_at : Bool → List ℕ → Members → Option Template
template_at item field ms = option_and_then (template_of item) (option_and_then tree_of (get_member field ms))

-- a whole number that isn't negative, where the field has one
abbrev pub optional_natural_at : List ℕ → Members → Option ℕ
optional_natural_at field ms = option_map nat_abs (option_and_then as_whole (get_member field ms))

-- such a number, and a default where the field has none
abbrev pub natural_at : List ℕ → ℕ → Members → ℕ
natural_at field default ms = unwrap_or (optional_natural_at field ms) default

-- the number of a field, whole or a float as it is written, and a default where the field has none
abbrev pub number_at : List ℕ → Num → Members → Num
number_at field default ms = unwrap_or (option_and_then as_number (get_member field ms)) default

-- the error names of a retrier or catcher
abbrev pub error_names : Members → List (List ℕ)
error_names ms = filter_map as_str (listed (items_at (codes "ErrorEquals") ms))

-- the float 2.0, by which intervals grow where `BackoffRate` is absent
abbrev pub default_rate : Num
default_rate = json.float (two_to 1)

-- an element of `Retry`; where a field is absent, the standard's default stands
abbrev pub retrier_of : Data → Retrier
retrier_of v = record {
  error_equals = error_names (members_in v);
  interval_seconds = natural_at (codes "IntervalSeconds") 1 (members_in v);
  max_attempts = natural_at (codes "MaxAttempts") 3 (members_in v);
  backoff_rate = number_at (codes "BackoffRate") default_rate (members_in v);
  max_delay_seconds = optional_natural_at (codes "MaxDelaySeconds") (members_in v);
  jitter_strategy = unwrap_or (text_at (codes "JitterStrategy") (members_in v)) (codes "NONE");
  comment = text_at (codes "Comment") (members_in v);
}

-- an element of `Catch`; without `ResultPath` the error output replaces the input
abbrev pub catcher_of : Data → Catcher
catcher_of v = record {
  error_equals = error_names (members_in v);
  result_path = path_or_null_at (codes "ResultPath") (members_in v);
  next = unwrap_or (text_at (codes "Next") (members_in v)) [];
  comment = text_at (codes "Comment") (members_in v);
}

-- what states of several types have; the `Parameters` of a Map are its `ItemSelector`
abbrev pub settings_in : Option Template → Members → Settings
settings_in parameters ms = record {
  input_path = path_or_null_at (codes "InputPath") ms;
  parameters = parameters;
  result_selector = template_at false (codes "ResultSelector") ms;
  result_path = path_or_null_at (codes "ResultPath") ms;
  output_path = path_or_null_at (codes "OutputPath") ms;
  next = text_at (codes "Next") ms;
  retriers = map retrier_of (listed (items_at (codes "Retry") ms));
  catchers = map catcher_of (listed (items_at (codes "Catch") ms));
  timeout_seconds = optional_natural_at (codes "TimeoutSeconds") ms;
  heartbeat_seconds = optional_natural_at (codes "HeartbeatSeconds") ms;
  max_concurrency = natural_at (codes "MaxConcurrency") 0 ms;
  comment = text_at (codes "Comment") ms;
}

-- what a Wait waits for: the one of its four fields that is there
abbrev pub delay_of : Members → Delay
delay_of ms =
    if is_given (codes "Seconds") ms then Seconds (natural_at (codes "Seconds") 0 ms) else
    (if is_given (codes "SecondsPath") ms then SecondsPath (path_at (codes "SecondsPath") ms) else
    (if is_given (codes "Timestamp") ms then Timestamp (unwrap_or (text_at (codes "Timestamp") ms) []) else
    TimestampPath (path_at (codes "TimestampPath") ms)))

-- the rules in `Choices`
abbrev pub rules_of : Members → List Rule
rules_of ms = filter_map (λ v. option_and_then rule_of (tree_of v)) (listed (items_at (codes "Choices") ms))

-- the `ItemSelector`, or `Parameters` as its older name
abbrev pub selector_of : Members → Option Template
selector_of ms =
    if is_given (codes "ItemSelector") ms then template_at true (codes "ItemSelector") ms
    else template_at true (codes "Parameters") ms

-- the state of that type, for what its branches and its processor are
abbrev pub state_by : Option StateType → Members → Scopes → Scope → State
state_by None ms branches processor = StateOf (settings_in None ms) Succeed
state_by (Some PassState) ms branches processor =
    StateOf (settings_in (template_at false (codes "Parameters") ms) ms)
    (Pass (option_and_then tree_of (get_member (codes "Result") ms)))
state_by (Some TaskState) ms branches processor =
    StateOf (settings_in (template_at false (codes "Parameters") ms) ms)
    (Task (unwrap_or (text_at (codes "Resource") ms) []))
state_by (Some ChoiceState) ms branches processor =
    StateOf (settings_in None ms) (Choice (rules_of ms) (text_at (codes "Default") ms))
state_by (Some WaitState) ms branches processor = StateOf (settings_in None ms) (Wait (delay_of ms))
state_by (Some SucceedState) ms branches processor = StateOf (settings_in None ms) Succeed
state_by (Some FailState) ms branches processor =
    StateOf (settings_in None ms)
    (Fail (unwrap_or (text_at (codes "Error") ms) []) (unwrap_or (text_at (codes "Cause") ms) []))
state_by (Some ParallelState) ms branches processor =
    StateOf (settings_in (template_at false (codes "Parameters") ms) ms) (Parallel branches)
state_by (Some MapState) ms branches processor =
    StateOf (settings_in None ms) (Map (path_at (codes "ItemsPath") ms) (selector_of ms) processor)

-- the field is a Map's processor, or has its older name
abbrev pub is_processor : List ℕ → Bool
is_processor n = bytes_eq (codes "ItemProcessor") n || bytes_eq (codes "Iterator") n

abbrev mutual
  -- the machine that a value stands for; a branch; a processor
  pub scope_of : Data → Scope
  scope_of json.null = empty_scope
  scope_of (json.boolean b) = empty_scope
  scope_of (json.number n) = empty_scope
  scope_of (json.string s) = empty_scope
  scope_of (json.array vs) = empty_scope
  scope_of (json.object ms) = ScopeOf (unwrap_or (text_at (codes "StartAt") ms) []) (states_under (codes "States") ms)

  -- the states in the field of that name
  pub states_under : List ℕ → Members → States
  states_under field json.no_members = NoStates
  states_under field (json.member n v ms) =
      elim (bytes_eq field n) [ true ↦ states_in v | false ↦ states_under field ms ]

  -- the states in a value of `States`
  pub states_in : Data → States
  states_in json.null = NoStates
  states_in (json.boolean b) = NoStates
  states_in (json.number n) = NoStates
  states_in (json.string s) = NoStates
  states_in (json.array vs) = NoStates
  states_in (json.object ms) = each_state ms

  -- the state of each member, under its name
  pub each_state : Members → States
  each_state json.no_members = NoStates
  each_state (json.member n v ms) = AndState n (state_of v) (each_state ms)

  -- the state that a value stands for
  pub state_of : Data → State
  state_of json.null = state_by None json.no_members NoScopes empty_scope
  state_of (json.boolean b) = state_by None json.no_members NoScopes empty_scope
  state_of (json.number n) = state_by None json.no_members NoScopes empty_scope
  state_of (json.string s) = state_by None json.no_members NoScopes empty_scope
  state_of (json.array vs) = state_by None json.no_members NoScopes empty_scope
  state_of (json.object ms) = state_by (type_of ms) ms (branches_under ms) (processor_under ms)

  -- the scopes in `Branches`
  pub branches_under : Members → Scopes
  branches_under json.no_members = NoScopes
  branches_under (json.member n v ms) =
      elim (bytes_eq (codes "Branches") n) [ true ↦ scopes_in v | false ↦ branches_under ms ]

  -- the branches in a list
  pub scopes_in : Data → Scopes
  scopes_in json.null = NoScopes
  scopes_in (json.boolean b) = NoScopes
  scopes_in (json.number n) = NoScopes
  scopes_in (json.string s) = NoScopes
  scopes_in (json.array vs) = each_scope vs
  scopes_in (json.object ms) = NoScopes

  -- the scope of each element
  pub each_scope : Items → Scopes
  each_scope json.no_items = NoScopes
  each_scope (json.item v vs) = AndScope (scope_of v) (each_scope vs)

  -- the scope in `ItemProcessor` or `Iterator`
  pub processor_under : Members → Scope
  processor_under json.no_members = empty_scope
  processor_under (json.member n v ms) = elim (is_processor n) [ true ↦ scope_of v | false ↦ processor_under ms ]

abbrev mutual
  -- the names of all states of a scope, those of nested scopes included
  pub all_names : Scope → List (List ℕ)
  all_names (ScopeOf start held) = names_among held

  -- the names of these states, and of those nested in each
  pub names_among : States → List (List ℕ)
  names_among NoStates = []
  names_among (AndState n state others) = n ∷ (names_within state ++ names_among others)

  -- the names of the states nested in a state
  pub names_within : State → List (List ℕ)
  names_within (StateOf settings kind) = nested_names kind

  -- so by the state's type
  pub nested_names : Kind → List (List ℕ)
  nested_names (Pass result) = []
  nested_names (Task resource) = []
  nested_names (Choice rules default) = []
  nested_names (Wait delay) = []
  nested_names Succeed = []
  nested_names (Fail error cause) = []
  nested_names (Parallel branches) = names_of_scopes branches
  nested_names (Map items selector processor) = all_names processor

  -- the names of all states of these scopes
  pub names_of_scopes : Scopes → List (List ℕ)
  names_of_scopes NoScopes = []
  names_of_scopes (AndScope scope others) = all_names scope ++ names_of_scopes others

-- ---- what is wrong

-- a fault, at the state of that name (empty for the machine itself), and at a field
pub record Complaint : Type 0 where
  pub fault : DefFault
  pub state : List ℕ
  pub field : List ℕ

-- where an object stands: the state that is told; and its field in which the object stands, None for the machine and
-- for states themselves
pub record Place : Type 0 where
  pub state : List ℕ
  pub within : Option (List ℕ)

-- the state itself
abbrev pub place_of_state : List ℕ → Place
place_of_state state = record { state = state; within = None }

-- an object in that field of the state
abbrev pub place_within : List ℕ → List ℕ → Place
place_within state field = record { state = state; within = Some field }

-- faults that are told at the field's own name, in whatever object it is
abbrev pub is_told_by_name : DefFault → Bool
is_told_by_name NotObject = false
is_told_by_name MissingField = true
is_told_by_name WrongKind = false
is_told_by_name UnknownField = true
is_told_by_name LeftOut = true
is_told_by_name UnknownType = false
is_told_by_name NameTooLong = false
is_told_by_name DuplicateName = false
is_told_by_name NoSuchState = false
is_told_by_name NextOrEnd = false
is_told_by_name BadPath = false
is_told_by_name BadTemplate = false
is_told_by_name BadRule = false
is_told_by_name BadErrorEquals = false
is_told_by_name EmptyList = false
is_told_by_name HeartbeatNotSmaller = false
is_told_by_name TooLarge = false
is_told_by_name NotWhole = false

-- the field at which a fault of a field is told: the state's own field, but for those faults
abbrev pub told_field : Option (List ℕ) → List ℕ → DefFault → List ℕ
told_field None field fault = field
told_field (Some own) field fault = if is_told_by_name fault then field else own

-- a fault of a field of the object that stands there
abbrev pub complaint_at : Place → List ℕ → DefFault → Complaint
complaint_at place field fault =
    record { fault = fault; state = place.state; field = told_field place.within field fault }

-- that complaint, unless the test holds
abbrev pub complain_unless : Bool → Place → List ℕ → DefFault → List Complaint
complain_unless right place field fault = if right then [] else complaint_at place field fault ∷ []

-- ---- the fields of an object

-- what is wrong with the value of a row, or with its absence
abbrev pub row_faults : Row → Option Data → List DefFault
row_faults row None = if row.required then MissingField ∷ [] else []
row_faults row (Some v) = misfits row.wanted v

-- what is wrong with the fields that rows name
abbrev pub rows_complaints : Place → List Row → Members → List Complaint
rows_complaints place [] ms = []
rows_complaints place (row ∷ rows) ms =
    map (complaint_at place row.field) (row_faults row (get_member row.field ms)) ++ rows_complaints place rows ms

-- the name is that of a row
abbrev pub has_row : List ℕ → List Row → Bool
has_row n [] = false
has_row n (row ∷ rows) = bytes_eq row.field n || has_row n rows

-- a complaint for each field without a row
abbrev pub foreign_complaints : Place → List Row → Members → List Complaint
foreign_complaints place rows json.no_members = []
foreign_complaints place rows (json.member n v ms) =
    if has_row n rows then foreign_complaints place rows ms else
    complaint_at place n (if is_among n left_out_fields then LeftOut else UnknownField)
    ∷ foreign_complaints place rows ms

-- what is wrong with the fields of an object, those that it may not have included
abbrev pub fields_complaints : Place → List Row → Members → List Complaint
fields_complaints place rows ms = rows_complaints place rows ms ++ foreign_complaints place rows ms

-- ---- rules on several fields

-- a text in that field names a state of the scope
abbrev pub target_complaints : Place → List (List ℕ) → List ℕ → Option (List ℕ) → List Complaint
target_complaints place names field None = []
target_complaints place names field (Some n) = complain_unless (is_among n names) place field NoSuchState

-- both are true, or both are false
abbrev pub same_truth : Bool → Bool → Bool
same_truth true b = b
same_truth false b = not b

-- `"End": true`; false counts as absent
abbrev pub ends : Option Bool → Bool
ends None = false
ends (Some b) = b

-- `End` is absent or a truth value
abbrev pub has_proper_end : Members → Bool
has_proper_end ms = not (is_given (codes "End") ms) || is_some (option_and_then as_bool (get_member (codes "End") ms))

-- exactly one of `Next` and `"End": true`, and `Next` names a state of the scope
abbrev pub next_complaints : Place → List (List ℕ) → Members → List Complaint
next_complaints place names ms =
    complain_unless (not (has_proper_end ms
    && same_truth (is_given (codes "Next") ms) (ends (option_and_then as_bool (get_member (codes "End") ms)))))
    place (codes "Next") NextOrEnd
    ++ target_complaints place names (codes "Next") (text_at (codes "Next") ms)

-- where both are given the heartbeat is smaller
abbrev pub smaller : Option ℤ → Option ℤ → Bool
smaller None timeout = true
smaller (Some heartbeat) None = true
smaller (Some heartbeat) (Some timeout) = int_lt heartbeat timeout

-- `HeartbeatSeconds` is smaller than `TimeoutSeconds` where both are whole numbers
abbrev pub heartbeat_complaints : Place → Members → List Complaint
heartbeat_complaints place ms =
    complain_unless (smaller (option_and_then as_whole (get_member (codes "HeartbeatSeconds") ms))
    (option_and_then as_whole (get_member (codes "TimeoutSeconds") ms)))
    place (codes "HeartbeatSeconds") HeartbeatNotSmaller

-- the last of the names, the first argument counted in front
abbrev pub last_of : List ℕ → List (List ℕ) → List ℕ
last_of n [] = n
last_of n (m ∷ ms) = last_of m ms

-- those of the fields that are given
abbrev pub given_among : List (List ℕ) → Members → List (List ℕ)
given_among [] ms = []
given_among (n ∷ ns) ms = if is_given n ms then n ∷ given_among ns ms else given_among ns ms

-- exactly one of the given fields: none is told at the first, several at the last
abbrev pub one_of_complaints : Place → List ℕ → List (List ℕ) → List Complaint
one_of_complaints place first [] = complaint_at place first MissingField ∷ []
one_of_complaints place first (n ∷ []) = []
one_of_complaints place first (n ∷ m ∷ ns) = complaint_at place (last_of m ns) WrongKind ∷ []

-- exactly one of what a Wait waits for; of a Map's processor and its older name
abbrev pub wait_complaints : Place → Members → List Complaint
wait_complaints place ms =
    one_of_complaints place (codes "Seconds")
    (given_among (codes "Seconds" ∷ codes "SecondsPath" ∷ codes "Timestamp" ∷ codes "TimestampPath" ∷ []) ms)

-- exactly one of a Map's `ItemProcessor` and its older name
abbrev pub processor_complaints : Place → Members → List Complaint
processor_complaints place ms =
    one_of_complaints place (codes "ItemProcessor") (given_among (codes "ItemProcessor" ∷ codes "Iterator" ∷ []) ms)

-- at most one of a Map's `ItemSelector` and its older name
abbrev pub selector_complaints : Place → Members → List Complaint
selector_complaints place ms =
    complain_unless (not (is_given (codes "ItemSelector") ms && is_given (codes "Parameters") ms))
    place (codes "Parameters") WrongKind

-- each rule goes on to a state of the scope
abbrev pub rules_complaints : Place → List (List ℕ) → List Rule → List Complaint
rules_complaints place names [] = []
rules_complaints place names (rule ∷ rules) =
    target_complaints place names (codes "Choices") (Some rule.next) ++ rules_complaints place names rules

-- ---- retriers and catchers

-- `States.ALL` stands alone, and in the last element
abbrev pub has_proper_names : Members → Bool → Bool
has_proper_names ms is_last =
    not (is_among (codes "States.ALL") (error_names ms)) || (is_last && length (error_names ms) == 1)

-- no element follows
abbrev pub is_last_before : Items → Bool
is_last_before json.no_items = true
is_last_before (json.item v vs) = false

-- what is wrong with an element of a list that should be an object of those fields
abbrev pub element_complaints : Place → List ℕ → List Row → Data → List Complaint
element_complaints place field rows v =
    unwrap_or (option_map (fields_complaints place rows) (as_object v)) (complaint_at place field (wrong_kind v) ∷ [])

-- what is wrong with each element of `Retry`
abbrev pub retriers_complaints : Place → Items → List Complaint
retriers_complaints place json.no_items = []
retriers_complaints place (json.item v vs) =
    element_complaints place (codes "Retry") retrier_rows v
    ++ (complain_unless (has_proper_names (members_in v) (is_last_before vs)) place (codes "Retry") BadErrorEquals
    ++ retriers_complaints place vs)

-- with each of `Catch`, whose `Next` is a state of the same scope
abbrev pub catchers_complaints : Place → List (List ℕ) → Items → List Complaint
catchers_complaints place names json.no_items = []
catchers_complaints place names (json.item v vs) =
    element_complaints place (codes "Catch") catcher_rows v
    ++ (complain_unless (has_proper_names (members_in v) (is_last_before vs)) place (codes "Catch") BadErrorEquals
    ++ (target_complaints place names (codes "Catch") (text_at (codes "Next") (members_in v))
    ++ catchers_complaints place names vs))

-- with both
abbrev pub trouble_complaints : List ℕ → List (List ℕ) → Members → List Complaint
trouble_complaints state names ms =
    retriers_complaints (place_within state (codes "Retry")) (items_at (codes "Retry") ms)
    ++ catchers_complaints (place_within state (codes "Catch")) names (items_at (codes "Catch") ms)

-- ---- states

-- the rules on several fields, for each type
abbrev pub type_complaints : StateType → List ℕ → List (List ℕ) → Members → List Complaint
type_complaints PassState state names ms = next_complaints (place_of_state state) names ms
type_complaints TaskState state names ms =
    next_complaints (place_of_state state) names ms
    ++ (heartbeat_complaints (place_of_state state) ms ++ trouble_complaints state names ms)
type_complaints ChoiceState state names ms =
    target_complaints (place_of_state state) names (codes "Default") (text_at (codes "Default") ms)
    ++ rules_complaints (place_of_state state) names (rules_of ms)
type_complaints WaitState state names ms =
    next_complaints (place_of_state state) names ms ++ wait_complaints (place_of_state state) ms
type_complaints SucceedState state names ms = []
type_complaints FailState state names ms = []
type_complaints ParallelState state names ms =
    next_complaints (place_of_state state) names ms ++ trouble_complaints state names ms
type_complaints MapState state names ms =
    next_complaints (place_of_state state) names ms
    ++ (processor_complaints (place_of_state state) ms
    ++ (selector_complaints (place_of_state state) ms
    ++ trouble_complaints state names ms))

-- the text in `Type` is that of no type
abbrev pub unknown_type : Place → Option (List ℕ) → List Complaint
unknown_type place None = []
unknown_type place (Some s) = complain_unless (is_some (type_named s)) place (codes "Type") UnknownType

-- what is wrong inside the scopes of a state: those of a Parallel's branches, or of a Map's processor
abbrev pub nested_complaints : StateType → List Complaint → List Complaint → List Complaint
nested_complaints PassState branches processor = []
nested_complaints TaskState branches processor = []
nested_complaints ChoiceState branches processor = []
nested_complaints WaitState branches processor = []
nested_complaints SucceedState branches processor = []
nested_complaints FailState branches processor = []
nested_complaints ParallelState branches processor = branches
nested_complaints MapState branches processor = processor

-- without a type only the fields of every state are looked at
abbrev pub state_complaints_by : Option StateType → List ℕ → List (List ℕ) → Members → List Complaint → List Complaint
    → List Complaint
state_complaints_by None state names ms branches processor =
    rows_complaints (place_of_state state) every_state_rows ms
    ++ unknown_type (place_of_state state) (text_at (codes "Type") ms)
state_complaints_by (Some type) state names ms branches processor =
    fields_complaints (place_of_state state) (rows_of type) ms
    ++ (type_complaints type state names ms ++ nested_complaints type branches processor)

-- how many Unicode characters a text has: as many as bytes that continue none
abbrev pub characters : List ℕ → ℕ
characters [] = 0
characters (b ∷ bs) = if b / 64 == 2 then characters bs else suc (characters bs)

-- a name has at most 80 characters
abbrev pub name_complaints : List ℕ → List Complaint
name_complaints n = complain_unless (not (nat_lt 80 (characters n))) (place_of_state n) (codes "States") NameTooLong

-- ---- scopes

abbrev mutual
  -- what is wrong with the object of a machine, a branch or a processor
  pub scope_complaints : Place → List Row → Data → List Complaint
  scope_complaints place rows json.null = []
  scope_complaints place rows (json.boolean b) = []
  scope_complaints place rows (json.number n) = []
  scope_complaints place rows (json.string s) = []
  scope_complaints place rows (json.array vs) = []
  scope_complaints place rows (json.object ms) =
      fields_complaints place rows ms
      ++ (target_complaints place (state_names ms) (codes "StartAt") (text_at (codes "StartAt") ms)
      ++ states_complaints_under (state_names ms) ms)

  -- with the states in `States`; the names are those of the states of the scope
  pub states_complaints_under : List (List ℕ) → Members → List Complaint
  states_complaints_under names json.no_members = []
  states_complaints_under names (json.member n v ms) =
      elim (bytes_eq (codes "States") n) [ true ↦ states_complaints names v | false ↦ states_complaints_under names ms ]

  -- what is wrong with a value of `States`
  pub states_complaints : List (List ℕ) → Data → List Complaint
  states_complaints names json.null = []
  states_complaints names (json.boolean b) = []
  states_complaints names (json.number n) = []
  states_complaints names (json.string s) = []
  states_complaints names (json.array vs) = []
  states_complaints names (json.object ms) = each_state_complaints names ms

  -- with the name of each member, and with it as a state
  pub each_state_complaints : List (List ℕ) → Members → List Complaint
  each_state_complaints names json.no_members = []
  each_state_complaints names (json.member n v ms) =
      name_complaints n ++ (state_complaints names n v ++ each_state_complaints names ms)

  -- with a value as a state
  pub state_complaints : List (List ℕ) → List ℕ → Data → List Complaint
  state_complaints names state json.null = complaint_at (place_of_state state) [] NotObject ∷ []
  state_complaints names state (json.boolean b) = complaint_at (place_of_state state) [] NotObject ∷ []
  state_complaints names state (json.number n) = complaint_at (place_of_state state) [] NotObject ∷ []
  state_complaints names state (json.string s) = complaint_at (place_of_state state) [] NotObject ∷ []
  state_complaints names state (json.array vs) = complaint_at (place_of_state state) [] NotObject ∷ []
  state_complaints names state (json.object ms) =
      state_complaints_by (type_of ms) state names ms (branches_complaints_under state ms)
      (processor_complaints_under state ms)

  -- with the scopes in `Branches`
  pub branches_complaints_under : List ℕ → Members → List Complaint
  branches_complaints_under state json.no_members = []
  branches_complaints_under state (json.member n v ms) =
      elim (bytes_eq (codes "Branches") n)
      [ true ↦ branches_complaints state v | false ↦ branches_complaints_under state ms ]

  -- with the scopes in a list
  pub branches_complaints : List ℕ → Data → List Complaint
  branches_complaints state json.null = []
  branches_complaints state (json.boolean b) = []
  branches_complaints state (json.number n) = []
  branches_complaints state (json.string s) = []
  branches_complaints state (json.array vs) = each_branch_complaints state vs
  branches_complaints state (json.object ms) = []

  -- with each element as a scope
  pub each_branch_complaints : List ℕ → Items → List Complaint
  each_branch_complaints state json.no_items = []
  each_branch_complaints state (json.item v vs) =
      complain_unless (is_some (as_object v)) (place_within state (codes "Branches")) (codes "Branches") (wrong_kind v)
      ++ (scope_complaints (place_within state (codes "Branches")) branch_rows v
      ++ each_branch_complaints state vs)

  -- with the scope in `ItemProcessor` or `Iterator`
  pub processor_complaints_under : List ℕ → Members → List Complaint
  processor_complaints_under state json.no_members = []
  processor_complaints_under state (json.member n v ms) =
      elim (is_processor n)
      [ true ↦ scope_complaints (place_within state n) processor_rows v | false ↦ processor_complaints_under state ms ]

-- ---- the machine

-- a name that stands again further on
abbrev pub duplicate_complaints : List (List ℕ) → List Complaint
duplicate_complaints [] = []
duplicate_complaints (n ∷ ns) =
    if is_among n ns then complaint_at (place_of_state n) (codes "States") DuplicateName ∷ duplicate_complaints ns
    else duplicate_complaints ns

-- a machine has at most 10,000 states
abbrev pub number_complaints : List (List ℕ) → List Complaint
number_complaints names =
    complain_unless (not (nat_lt 10000 (length names))) (place_of_state []) (codes "States") TooLarge

-- a definition is an object
abbrev pub no_object_complaints : Data → List Complaint
no_object_complaints v = complain_unless (is_some (as_object v)) (place_of_state []) [] NotObject

-- all that is wrong with a value as a definition
abbrev pub complaints : Data → List Complaint
complaints v =
    no_object_complaints v
    ++ (scope_complaints (place_of_state []) machine_rows v
    ++ (duplicate_complaints (all_names (scope_of v))
    ++ number_complaints (all_names (scope_of v))))

-- the value stands for the machine
pub record StandsFor (v : Data) (machine : Scope) : Type 0 where
  pub none_wrong : complaints v ≡ []
  pub same : scope_of v ≡ machine

-- that is wrong with the value
pub record HasComplaint (v : Data) (c : Complaint) : Type 0 where
  pub listed : Contains (complaints v) c
