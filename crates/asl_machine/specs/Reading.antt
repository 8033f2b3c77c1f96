-- What is wrong with the fields of an object that are read, and with a state apart from these. No public clause cites this
-- module.
use Rattle.std.specs.Prelude.{◌≡◌, ℕ, List, [], ◌∷◌, ◌++◌, map, length, Bool, true, false, is_some, not}
use Rattle.std.specs.Prelude.{◌&&◌, ◌||◌, ◌==◌, if◌then◌else◌, Option, Some, None, option_map, option_and_then, codes}
use Rattle.std.specs.Option.{unwrap_or}
use Rattle.serde_json.specs.Data.{Data, Members}
use Rattle.serde_json.specs.Find.{get_member, as_object, as_bool}
use Rattle.serde_json.specs.declared.value.Value.{Value}
use Rattle.asl_model.specs.DefinitionTable as model
use Rattle.asl_model.specs.DefinitionTable.{machine_rows, branch_rows, every_state_rows, retrier_rows, catcher_rows, rows_of}
use Rattle.asl_model.specs.ShapeSpelling.{is_among}
use Rattle.asl_model.specs.StandsFor as complaints
use Rattle.asl_model.specs.StandsFor.{Complaint, Place, place_of_state, place_within, complaint_at, one_of_complaints, last_of}
use Rattle.asl_model.specs.StandsFor.{members_in, state_names}
use Rattle.asl_model.specs.StandsFor.{rows_complaints, foreign_complaints, text_at, rules_of}
use Rattle.asl_model.specs.StandsFor.{next_complaints, target_complaints, heartbeat_complaints}
use Rattle.asl_model.specs.StandsFor.{wait_complaints, processor_complaints, selector_complaints}
use Rattle.asl_model.specs.StandsFor.{rules_complaints, trouble_complaints}
use Rattle.asl_fields.specs.Reading.{fields_of, checked_complaints, given_faults, is_read, told_at, rules_told}

-- ---- what the values of a definition are

-- the names of the states of a scope
abbrev pub names_in : Value → List (List ℕ)
names_in scope = state_names (fields_of scope)

-- `End` is true
abbrev pub ends_at : Members → Bool
ends_at ms = complaints.ends (option_and_then as_bool (get_member (codes "End") ms))

-- ---- the fields of an object

-- what is wrong with the fields that are read
abbrev pub read_complaints : Place → List model.Row → Members → List Complaint
read_complaints place [] ms = []
read_complaints place (row ∷ rows) ms =
    map (complaint_at place row.field)
    (if is_read row.wanted then given_faults row.required row.wanted (get_member row.field ms) else [])
    ++ read_complaints place rows ms

-- what is wrong with an element of a list that should be an object of those fields, but for what is read
abbrev pub element_checked : Place → List ℕ → List model.Row → Data → List Complaint
element_checked place field rows v =
    unwrap_or (option_map (λ ms. checked_complaints place rows ms ++ foreign_complaints place rows ms) (as_object v))
    (complaint_at place field (model.wrong_kind v) ∷ [])

-- among error names `States.ALL` stands alone, and in the last element
abbrev pub are_proper : List (List ℕ) → Bool → Bool
are_proper names is_last = not (is_among (codes "States.ALL") names) || (is_last && length names == 1)

-- the error names of an element
abbrev pub names_told : Place → List ℕ → Bool → Members → List Complaint
names_told place field is_last ms =
    complaints.complain_unless (complaints.has_proper_names ms is_last) place field model.BadErrorEquals

-- those of a catcher, and where it goes on to
abbrev pub caught_told : Place → List (List ℕ) → Bool → Members → List Complaint
caught_told place names is_last ms =
    names_told place (codes "Catch") is_last ms
    ++ target_complaints place names (codes "Catch") (text_at (codes "Next") ms)

-- a retrier
abbrev pub retrier_told : Place → Bool → Data → List Complaint
retrier_told place is_last v =
    complaints.element_complaints place (codes "Retry") retrier_rows v
    ++ names_told place (codes "Retry") is_last (members_in v)

-- a catcher
abbrev pub catcher_told : Place → List (List ℕ) → Bool → Data → List Complaint
catcher_told place names is_last v =
    complaints.element_complaints place (codes "Catch") catcher_rows v ++ caught_told place names is_last (members_in v)

-- a catcher but for its path
abbrev pub caught_checked : Place → List (List ℕ) → Bool → Data → List Complaint
caught_checked place names is_last v =
    element_checked place (codes "Catch") catcher_rows v ++ caught_told place names is_last (members_in v)

-- each of the rows is checked
pub record AreChecked (rows : List model.Row) : Type 0 where
  pub same : (place : Place) (ms : Members) → checked_complaints place rows ms ≡ rows_complaints place rows ms

-- ---- the fields of a state that are read

-- the parameters of a state, those of a Map aside
abbrev pub parameters_told : model.StateType → Place → Members → List Complaint
parameters_told model.PassState place ms = told_at place (codes "Parameters") model.TemplateValue ms
parameters_told model.TaskState place ms = told_at place (codes "Parameters") model.TemplateValue ms
parameters_told model.ChoiceState place ms = []
parameters_told model.WaitState place ms = []
parameters_told model.SucceedState place ms = []
parameters_told model.FailState place ms = []
parameters_told model.ParallelState place ms = told_at place (codes "Parameters") model.TemplateValue ms
parameters_told model.MapState place ms = []

-- what states of several types make of their data
abbrev pub processing_told : Place → Members → List Complaint
processing_told place ms =
    told_at place (codes "ResultSelector") model.TemplateValue ms
    ++ (told_at place (codes "ResultPath") model.PathOrNullValue ms
    ++ (told_at place (codes "InputPath") model.PathOrNullValue ms
    ++ told_at place (codes "OutputPath") model.PathOrNullValue ms))

-- with where they go on to
abbrev pub choices_told : Place → List (List ℕ) → Members → List Complaint
choices_told place names ms = rules_told place ms ++ rules_complaints place names (rules_of ms)

-- the paths that a Wait may have
abbrev pub delay_told : Place → Members → List Complaint
delay_told place ms =
    told_at place (codes "SecondsPath") model.PathValue ms ++ told_at place (codes "TimestampPath") model.PathValue ms

-- the selector of a Map, under both names
abbrev pub selector_told : Place → Members → List Complaint
selector_told place ms =
    told_at place (codes "ItemSelector") model.ItemTemplateValue ms
    ++ told_at place (codes "Parameters") model.ItemTemplateValue ms

-- what a Map alone has
abbrev pub map_told : Place → Members → List Complaint
map_told place ms = told_at place (codes "ItemsPath") model.PathValue ms ++ selector_told place ms

-- what a type alone has
abbrev pub kind_told : model.StateType → Place → Members → List Complaint
kind_told model.PassState place ms = []
kind_told model.TaskState place ms = []
kind_told model.ChoiceState place ms = rules_told place ms
kind_told model.WaitState place ms = delay_told place ms
kind_told model.SucceedState place ms = []
kind_told model.FailState place ms = []
kind_told model.ParallelState place ms = []
kind_told model.MapState place ms = map_told place ms

-- ---- the rules on several fields

-- exactly one of some fields, of which the last that was found is given, and whether it wasn't the first; the others
-- are left
abbrev pub one_of_left : Place → List ℕ → Option (List ℕ) → Bool → List (List ℕ) → List Complaint
one_of_left place first None several ns = one_of_complaints place first ns
one_of_left place first (Some n) true ns = complaint_at place (last_of n ns) model.WrongKind ∷ []
one_of_left place first (Some n) false ns = one_of_complaints place first (n ∷ ns)

-- whether a state goes on in one way
abbrev pub goes_on_told : Place → Members → List Complaint
goes_on_told place ms =
    complaints.complain_unless
    (not (complaints.has_proper_end ms && complaints.same_truth (complaints.is_given (codes "Next") ms) (ends_at ms)))
    place (codes "Next") model.NextOrEnd

-- those of a Task
abbrev pub task_told : Place → List (List ℕ) → Members → List Complaint
task_told place names ms = next_complaints place names ms ++ heartbeat_complaints place ms

-- those of a Wait
abbrev pub wait_told : Place → List (List ℕ) → Members → List Complaint
wait_told place names ms = next_complaints place names ms ++ wait_complaints place ms

-- those of a Map
abbrev pub map_rules_told : Place → List (List ℕ) → Members → List Complaint
map_rules_told place names ms =
    next_complaints place names ms ++ (processor_complaints place ms ++ selector_complaints place ms)

-- those that are checked before the fields are read
abbrev pub rules_of_type : model.StateType → List ℕ → List (List ℕ) → Members → List Complaint
rules_of_type model.PassState state names ms = next_complaints (place_of_state state) names ms
rules_of_type model.TaskState state names ms = task_told (place_of_state state) names ms
rules_of_type model.ChoiceState state names ms =
    target_complaints (place_of_state state) names (codes "Default") (text_at (codes "Default") ms)
rules_of_type model.WaitState state names ms = wait_told (place_of_state state) names ms
rules_of_type model.SucceedState state names ms = []
rules_of_type model.FailState state names ms = []
rules_of_type model.ParallelState state names ms = next_complaints (place_of_state state) names ms
rules_of_type model.MapState state names ms = map_rules_told (place_of_state state) names ms

-- where the rules of a Choice go on to
abbrev pub rule_targets : model.StateType → List ℕ → List (List ℕ) → Members → List Complaint
rule_targets model.PassState state names ms = []
rule_targets model.TaskState state names ms = []
rule_targets model.ChoiceState state names ms = rules_complaints (place_of_state state) names (rules_of ms)
rule_targets model.WaitState state names ms = []
rule_targets model.SucceedState state names ms = []
rule_targets model.FailState state names ms = []
rule_targets model.ParallelState state names ms = []
rule_targets model.MapState state names ms = []

-- what a type alone has, with where the rules of a Choice go on to
abbrev pub kind_told_with_targets : model.StateType → List ℕ → List (List ℕ) → Members → List Complaint
kind_told_with_targets t state names ms = kind_told t (place_of_state state) ms ++ rule_targets t state names ms

-- ---- a state whose other fields are in order

-- what is told of what states of several types have
abbrev pub settings_told : model.StateType → List ℕ → List (List ℕ) → Members → List Complaint
settings_told t state names ms =
    trouble_complaints state names ms
    ++ (processing_told (place_of_state state) ms ++ parameters_told t (place_of_state state) ms)

-- all that is told of the state
abbrev pub state_told : model.StateType → List ℕ → List (List ℕ) → Members → List Complaint
state_told t state names ms =
    rules_of_type t state names ms
    ++ (settings_told t state names ms
    ++ (kind_told t (place_of_state state) ms ++ rule_targets t state names ms))

-- ---- states and scopes

-- what is told of a state apart from its scopes
abbrev pub own_told : model.StateType → List (List ℕ) → List ℕ → Members → List Complaint
own_told t names state ms =
    complaints.fields_complaints (place_of_state state) (rows_of t) ms ++ complaints.type_complaints t state names ms

-- of its scopes
abbrev pub nested_told : model.StateType → List ℕ → Members → List Complaint
nested_told t state ms =
    complaints.nested_complaints t
    (complaints.branches_complaints_under state ms) (complaints.processor_complaints_under state ms)

-- of the state, where that is its type
abbrev pub typed_told : model.StateType → List (List ℕ) → List ℕ → Members → List Complaint
typed_told t names state ms =
    complaints.state_complaints_by (Some t) state names ms
    (complaints.branches_complaints_under state ms) (complaints.processor_complaints_under state ms)

-- of an object without a type as a state
abbrev pub untyped_told : List ℕ → Members → List Complaint
untyped_told state ms =
    rows_complaints (place_of_state state) every_state_rows ms
    ++ complaints.unknown_type (place_of_state state) (text_at (codes "Type") ms)

-- of a state with its name
abbrev pub named_told : List (List ℕ) → List ℕ → Data → List Complaint
named_told names state v = complaints.name_complaints state ++ complaints.state_complaints names state v

-- of a branch of a state
abbrev pub branch_told : List ℕ → Data → List Complaint
branch_told state v =
    complaints.complain_unless (is_some (as_object v))
    (place_within state (codes "Branches")) (codes "Branches") (model.wrong_kind v)
    ++ complaints.scope_complaints (place_within state (codes "Branches")) branch_rows v

-- of a definition, but for the names of all its states
abbrev pub definition_told : Data → List Complaint
definition_told v =
    complaints.no_object_complaints v ++ complaints.scope_complaints (place_of_state []) machine_rows v
