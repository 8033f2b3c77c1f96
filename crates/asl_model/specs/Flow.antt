-- The data flow through a state (States Language, "Input and Output Processing" and "State Types").
-- The order is: raw input, `InputPath`, `Parameters`, the work, `ResultSelector`, `ResultPath`, `OutputPath`.
-- The profile chooses: `SecondsPath`, `TimestampPath` and `ItemsPath` go into the effective input, and a Wait looks
-- at what they name, but waits for nothing.
use Rattle.std.specs.Prelude.{ℕ, suc, pos, List, [], ◌∷◌, Bool, true, false, Option}
use Rattle.std.specs.Prelude.{Some, None, unwrap_or, Result, Ok, Err, codes}
use Rattle.asl_model.specs.Names.{StateName, FieldName, ErrorName, Bytes}
use Rattle.asl_model.specs.Tree.{Tree, Null, Boolean, Integer, Text, Array, Object, Trees, NoTrees, AndTree, NoFields}
use Rattle.asl_model.specs.Path.{Segment, named_by}
use Rattle.asl_model.specs.Placing.{placed}
use Rattle.asl_model.specs.Faults.{DataFlowError, ResultPathMatchFailure, NoChoiceMatched}
use Rattle.asl_model.specs.Faults.{NamesNothing, WrongKind, Fault, or_fault, and_then}
use Rattle.asl_model.specs.Template.{Template, template_value}
use Rattle.asl_model.specs.Test.{Rule, truth}
use Rattle.asl_model.specs.Machine.{Settings, Delay, Seconds, SecondsPath, Timestamp}
use Rattle.asl_model.specs.Machine.{TimestampPath, State, StateOf, Kind, Pass, Task, Choice, Wait}
use Rattle.asl_model.specs.Machine.{Succeed, Fail, Parallel, Map, Scopes, NoScopes, AndScope}

-- what `InputPath` or `OutputPath` gives: `{}` where it is `null`, else what the path names
abbrev pub at_path : FieldName → Option (List Segment) → Tree → Result Tree Fault
at_path field None v = Ok (Object NoFields)
at_path field (Some p) v = or_fault NamesNothing field (named_by p v)

-- the template's value, or a fault in that field
abbrev pub met_in : FieldName → Result Tree DataFlowError → Result Tree Fault
met_in field (Ok t) = Ok t
met_in field (Err error) = Err (record { error = error; field = field })

-- the value of a template that stands in that field, or the input itself where none is given
abbrev pub by_template : FieldName → Option Template → Tree → Result Tree Fault
by_template field None v = Ok v
by_template field (Some template) v = met_in field (template_value template v None)

-- what stands after `InputPath` and `Parameters`
abbrev pub effective_input : Settings → Tree → Result Tree Fault
effective_input settings raw =
    and_then (by_template (codes "Parameters") settings.parameters)
    (at_path (codes "InputPath") settings.input_path raw)

-- the result placed in the raw input; with `ResultPath` null the raw input itself
abbrev pub result_placed : Option (List Segment) → Tree → Tree → Result Tree Fault
result_placed None raw result = Ok raw
result_placed (Some p) raw result = or_fault ResultPathMatchFailure (codes "ResultPath") (placed p result raw)

-- what `OutputPath` leaves of a tree: the whole output of a Wait, a Choice or a Succeed is that of its effective input
abbrev pub at_output_path : Settings → Tree → Result Tree Fault
at_output_path settings v = at_path (codes "OutputPath") settings.output_path v

-- the output of a state with that raw input and that result: `ResultSelector`, `ResultPath`, `OutputPath`
abbrev pub output_of : Settings → Tree → Tree → Result Tree Fault
output_of settings raw result =
    and_then (at_output_path settings) (and_then (result_placed settings.result_path raw)
    (by_template (codes "ResultSelector") settings.result_selector result))

-- what a state's first move comes to
pub data Work : Type 0 where
  -- it has a result
  Finishes : Tree → Work
  -- it leaves with its effective input, for that next state or for the end of its scope
  Leaves : Option StateName → Tree → Work
  -- it fails, with an error and a cause
  FailsWith : ErrorName → Bytes → Work
  -- it asks its task, with a payload
  Asks : Tree → Work
  -- it starts a child for each of these inputs
  Splits : Trees → Work
  -- a data-flow fault
  Raises : Fault → Work

-- the work on a value, unless there was a fault
abbrev pub works_on : {A : Type 0} → (A → Work) → Result A Fault → Work
works_on work (Ok a) = work a
works_on work (Err fault) = Raises fault

-- the rule's next state where its test is true, what the further rules give where it is false
abbrev pub by_truth : Option Bool → StateName → Result StateName Fault → Result StateName Fault
by_truth None next further = Err (record { error = NamesNothing; field = codes "Choices" })
by_truth (Some true) next further = Ok next
by_truth (Some false) next further = further

-- the next state of a Choice: that of the first rule that is true, else `Default`
abbrev pub chosen : List Rule → Option StateName → Tree → Result StateName Fault
chosen [] default v = or_fault NoChoiceMatched (codes "Choices") default
chosen (rule ∷ rules) default v = by_truth (truth rule.test v) rule.next (chosen rules default v)

-- a fault of a value that isn't of the kind that the field wants
abbrev pub wrong_kind : {A : Type 0} → FieldName → Result A Fault
wrong_kind field = Err (record { error = WrongKind; field = field })

-- the value is a whole number
abbrev pub number_wanted : FieldName → Tree → Result Tree Fault
number_wanted field Null = wrong_kind field
number_wanted field (Boolean b) = wrong_kind field
number_wanted field (Integer n) = Ok (Integer n)
number_wanted field (Text t) = wrong_kind field
number_wanted field (Array ts) = wrong_kind field
number_wanted field (Object fs) = wrong_kind field

-- the value is a text
abbrev pub text_wanted : FieldName → Tree → Result Tree Fault
text_wanted field Null = wrong_kind field
text_wanted field (Boolean b) = wrong_kind field
text_wanted field (Integer n) = wrong_kind field
text_wanted field (Text t) = Ok (Text t)
text_wanted field (Array ts) = wrong_kind field
text_wanted field (Object fs) = wrong_kind field

-- the elements of a list
abbrev pub list_wanted : FieldName → Tree → Result Trees Fault
list_wanted field Null = wrong_kind field
list_wanted field (Boolean b) = wrong_kind field
list_wanted field (Integer n) = wrong_kind field
list_wanted field (Text t) = wrong_kind field
list_wanted field (Array ts) = Ok ts
list_wanted field (Object fs) = wrong_kind field

-- what the path in that field names
abbrev pub named_in : FieldName → List Segment → Tree → Result Tree Fault
named_in field p v = or_fault NamesNothing field (named_by p v)

-- what a Wait looks at in its effective input before it waits
abbrev pub delay_in : Delay → Tree → Result Tree Fault
delay_in (Seconds n) v = Ok v
delay_in (SecondsPath p) v = and_then (number_wanted (codes "SecondsPath")) (named_in (codes "SecondsPath") p v)
delay_in (Timestamp t) v = Ok v
delay_in (TimestampPath p) v = and_then (text_wanted (codes "TimestampPath")) (named_in (codes "TimestampPath") p v)

-- one input for each branch
abbrev pub branch_inputs : Scopes → Tree → Trees
branch_inputs NoScopes v = NoTrees
branch_inputs (AndScope branch others) v = AndTree v (branch_inputs others v)

-- the input of a Map's child: the item, or the value of `ItemSelector` for the Map's effective input v and the item
abbrev pub item_input : Option Template → Tree → ℕ → Tree → Result Tree Fault
item_input None v i t = Ok t
item_input (Some selector) v i t =
    met_in (codes "ItemSelector") (template_value selector v (Some (record { number = pos i; value = t })))

-- the inputs of a Map's children, one for each item from number i on; the first fault counts
abbrev pub item_inputs : Option Template → Tree → ℕ → Trees → Result Trees Fault
item_inputs selector v i NoTrees = Ok NoTrees
item_inputs selector v i (AndTree t ts) =
    and_then (λ u. and_then (λ us. Ok (AndTree u us)) (item_inputs selector v (suc i) ts)) (item_input selector v i t)

-- the items of a Map: the list that `ItemsPath` names in the effective input
abbrev pub map_items : List Segment → Tree → Result Trees Fault
map_items p v = and_then (list_wanted (codes "ItemsPath")) (named_in (codes "ItemsPath") p v)

-- what a state's first move comes to, for its type, its settings and its raw input
abbrev pub work_of : Kind → Settings → Tree → Work
work_of (Pass result) settings raw = works_on (λ v. Finishes (unwrap_or result v)) (effective_input settings raw)
work_of (Task resource) settings raw = works_on Asks (effective_input settings raw)
work_of (Choice rules default) settings raw =
    works_on (λ v. works_on (λ next. Leaves (Some next) v) (chosen rules default v)) (effective_input settings raw)
work_of (Wait delay) settings raw =
    works_on (λ v. works_on (λ u. Leaves settings.next v) (delay_in delay v)) (effective_input settings raw)
work_of Succeed settings raw = works_on (Leaves None) (effective_input settings raw)
work_of (Fail error cause) settings raw = FailsWith error cause
work_of (Parallel branches) settings raw =
    works_on (λ v. Splits (branch_inputs branches v)) (effective_input settings raw)
work_of (Map items selector processor) settings raw =
    works_on (λ v. works_on Splits (and_then (item_inputs selector v 0) (map_items items v)))
    (effective_input settings raw)

-- what a state's first move comes to for a raw input
abbrev pub first_move : State → Tree → Work
first_move (StateOf settings kind) raw = work_of kind settings raw
