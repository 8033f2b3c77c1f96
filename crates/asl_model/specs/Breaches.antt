-- Rules of a certificate that are broken, and the shapes that the rules on what flows through a state look at (the
-- profile's own).
use Rattle.std.specs.Prelude.{ℕ, ◌==◌, List, [], ◌∷◌, ◌++◌, length, map, Bool, true, false, ◌&&◌, ◌||◌, not}
use Rattle.std.specs.Prelude.{Option, Some, None, Result, Ok, is_some, is_none, codes, if◌then◌else◌}
use Rattle.asl_model.specs.Names.{StateName, FieldName}
use Rattle.asl_model.specs.Tree.{Tree}
use Rattle.asl_model.specs.Path.{Segment}
use Rattle.asl_model.specs.Template.{Template}
use Rattle.asl_model.specs.Machine.{Settings, Scope, Kind, is_task, names_state}
use Rattle.asl_model.specs.Shape.{Shape, Never, StringShape, ArrayShape, ObjectShape, Arrays}
use Rattle.asl_model.specs.Shape.{WithoutArrays, ArraysOf, Shapes, NoShapes, AndShape, NoFieldShapes}
use Rattle.asl_model.specs.Shape.{AndFieldShape, inhabited}
use Rattle.asl_model.specs.ShapeOrder.{join, joined_with_each}
use Rattle.asl_model.specs.Examples.{outside}
use Rattle.asl_model.specs.ShapeFlow.{put, arrays_alone, template_shape, Flow, FlowFault, MissingAt}
use Rattle.asl_model.specs.ShapeFlow.{DoubtfulPath, FailsAt, MisfitAt, flow_then, through_path}
use Rattle.asl_model.specs.ShapeFlow.{through_template, template_flow}
use Rattle.asl_model.specs.Missing.{counterexample}
use Rattle.asl_model.specs.Certificate.{TaskShapes, Declared, StateShapes, Certificate, certified}
use Rattle.asl_model.specs.Certificate.{branches_in, is_map}

-- the faults that a finding can have
pub data FindingFault : Type 0 where
  -- the state has no entry of the right form
  NotCertified : FindingFault
  -- an entry names no state
  NotAState : FindingFault
  -- the task isn't declared
  TaskUndeclared : FindingFault
  -- a declared task names no Task state
  TaskUnknown : FindingFault
  -- the declared input isn't inside the start state's input
  StartInput : FindingFault
  PathMayBeMissing : FindingFault
  -- what a path names may be of another kind than its field wants
  WrongKind : FindingFault
  -- what is placed may not fit
  ResultMayNotFit : FindingFault
  IntrinsicMayFail : FindingFault
  -- a Choice has no `Default`, and no two of its rules stand for one
  NoDefault : FindingFault
  -- the payload isn't inside what the task takes
  PayloadNotTaken : FindingFault
  -- the output isn't inside the state's output
  OutputNotCertified : FindingFault
  -- the output isn't inside the next state's input
  NextInput : FindingFault
  -- the output isn't inside the shape of the scope's end
  ScopeOutput : FindingFault
  -- a child's input isn't inside its start state's input
  BranchInput : FindingFault
  -- what a catcher hands on isn't inside the next state's input
  CatchInput : FindingFault

-- a tree shows a rule with that fault to be broken: one that flows and lacks the shape compared with, or in which a path
-- names nothing
abbrev pub has_example : FindingFault → Bool
has_example NotCertified = false
has_example NotAState = false
has_example TaskUndeclared = false
has_example TaskUnknown = false
has_example StartInput = true
has_example PathMayBeMissing = true
has_example WrongKind = false
has_example ResultMayNotFit = false
has_example IntrinsicMayFail = false
has_example NoDefault = false
has_example PayloadNotTaken = true
has_example OutputNotCertified = true
has_example NextInput = true
has_example ScopeOutput = true
has_example BranchInput = true
has_example CatchInput = true

-- a broken rule of a state: the state's field, the fault, and for a comparison or a path a tree that shows it
pub record Breach : Type 0 where
  pub field : FieldName
  pub fault : FindingFault
  pub example : Option Tree

-- a broken rule, with the name of its state (or of the entry that names none)
pub record Finding : Type 0 where
  pub state : StateName
  pub field : FieldName
  pub fault : FindingFault
  pub example : Option Tree

-- the breaches as findings of the state of that name
abbrev pub found_at : StateName → List Breach → List Finding
found_at n breaches =
    map (λ (b : Breach). record { state = n; field = b.field; fault = b.fault; example = b.example }) breaches

-- the breach, which no tree shows
abbrev pub plain_breach : FieldName → FindingFault → Breach
plain_breach field fault = record { field = field; fault = fault; example = None }

-- the breach, unless the test holds
abbrev pub breach_unless : Bool → FieldName → FindingFault → List Breach
breach_unless true field fault = []
breach_unless false field fault = plain_breach field fault ∷ []

-- the breach that a tree shows, if there is one
abbrev pub breach_shown : FieldName → FindingFault → Option Tree → List Breach
breach_shown field fault None = []
breach_shown field fault (Some t) = record { field = field; fault = fault; example = Some t } ∷ []

-- A comparison of what flows with what is certified, passed over where nothing is: a tree outside shows the breach.
abbrev pub breach_unless_sub : FieldName → FindingFault → Shape → Option Shape → List Breach
breach_unless_sub field fault s None = []
breach_unless_sub field fault s (Some expected) = breach_shown field fault (outside s expected)

-- a path of the field is doubtful: a tree in which it names nothing shows the breach
abbrev pub missing_breach : FieldName → DoubtfulPath → Breach
missing_breach field doubtful =
    record { field = field; fault = PathMayBeMissing; example = counterexample doubtful }

-- what may stop a flow, as a broken rule
abbrev pub breach_of : FlowFault → Breach
breach_of (MissingAt field doubtful) = missing_breach field doubtful
breach_of (FailsAt field) = plain_breach field IntrinsicMayFail
breach_of (MisfitAt field) = plain_breach field ResultMayNotFit

-- The entries

-- whether an entry has the form that the state's type asks for: a shape a branch for a Parallel, that of the
-- processor's end for a Map alone
abbrev pub has_form : Kind → StateShapes → Bool
has_form kind entry =
    (length entry.branches == branches_in kind) && (if is_map kind then is_some entry.item else is_none entry.item)

-- the state has an entry of the right form
abbrev pub is_certified : Kind → Option StateShapes → Bool
is_certified kind None = false
is_certified kind (Some entry) = has_form kind entry

-- the entry is there and of the right form, and a Task is declared
abbrev pub entry_breaches : Kind → Option StateShapes → Option TaskShapes → List Breach
entry_breaches kind entry task =
    breach_unless (is_certified kind entry) (codes "states") NotCertified
    ++ breach_unless (not (is_task kind) || is_some task) (codes "Resource") TaskUndeclared

-- the input that an entry certifies; a state without an entry has none, and what is no state takes no tree
abbrev pub input_of_entry : Bool → Option StateShapes → Option Shape
input_of_entry is_state None = if is_state then None else Some Never
input_of_entry is_state (Some entry) = Some entry.input

-- what is compared with the certified input of the state of that name
abbrev pub input_to_compare : Scope → Certificate → StateName → Option Shape
input_to_compare machine certificate n = input_of_entry (names_state machine n) (certified certificate n)

-- Data flow

-- What a state that has an entry stands in: what is declared, the shape that the input of each state is compared with,
-- by the names of states, and that of its scope's end; its own name, and its entry. A comparison is passed over where
-- no shape stands.
pub record Surroundings : Type 0 where
  pub declared : Declared
  pub inputs : StateName → Option Shape
  pub end : Option Shape
  pub name : StateName
  pub entry : StateShapes

-- these surroundings
abbrev pub surrounded_by : Declared → (StateName → Option Shape) → Option Shape → StateName → StateShapes → Surroundings
surrounded_by declared inputs end n entry =
    record { declared = declared; inputs = inputs; end = end; name = n; entry = entry }

-- what stands after `InputPath` and `Parameters`
abbrev pub effective_flow : Settings → Shape → Flow
effective_flow settings input =
    flow_then (through_template (codes "Parameters") settings.parameters)
    (through_path (codes "InputPath") settings.input_path input)

-- the shapes, as those of the first elements of an array
abbrev pub as_first_elements : List Shape → Shapes
as_first_elements [] = NoShapes
as_first_elements (s ∷ further) = AndShape s (as_first_elements further)

-- Maps

-- the shape of an item: the join of those of the first elements in order, and of that of the further ones
abbrev pub element_shape : Shapes → Shape → Shape
element_shape first rest = join (joined_with_each join Never first) rest

-- the shape of a child's input; for an element that never comes `ItemSelector` isn't looked at
abbrev pub item_flow : Option Template → Shape → Shape → Flow
item_flow None effective element = Ok element
item_flow (Some selector) effective element =
    if inhabited element then template_flow (codes "ItemSelector") (template_shape selector effective (Some element))
    else Ok Never

-- one shape for each place
abbrev pub at_each_place : Shape → Shapes → Shapes
at_each_place s NoShapes = NoShapes
at_each_place s (AndShape other others) = AndShape s (at_each_place s others)

-- the shape of the list of the children's outputs
abbrev pub map_result : Shape → Shapes → Shape → Shape
map_result item first rest = ArrayShape (at_each_place item first) (if inhabited rest then item else Never)

-- the shapes of the first elements and of the further ones
abbrev pub elements_of : Arrays → Option (Shapes × Shape)
elements_of WithoutArrays = None
elements_of (ArraysOf first rest) = Some (first, rest)

-- those of a shape that arrays alone have
abbrev pub array_parts : Shape → Option (Shapes × Shape)
array_parts s = elements_of (arrays_alone s)

-- Catchers

-- the shape of what a catcher places: the error's name and its cause
abbrev pub error_output_shape : Shape
error_output_shape =
    ObjectShape (AndFieldShape (codes "Cause") true StringShape
    (AndFieldShape (codes "Error") true StringShape NoFieldShapes)) false

-- the shape of the state's input with the error output placed at a catcher's `ResultPath`; where that is null, that
-- input
abbrev pub error_placed_shape : Option (List Segment) → Shape → Result Shape ℕ
error_placed_shape None input = Ok input
error_placed_shape (Some path) input = put path error_output_shape input
