-- A path that is told as a doubtful one, of a template or on the way out of a state, is refused by the look-up in the
-- shape that is told with it.
use Rattle.std.proofs.Common.{◌≡◌, ℕ, List, [], ◌∷◌, Bool, true, false, ◌&&◌, Option, Some, None, Result, Ok, Err, IfErr, IsErr, codes, refl}
use Rattle.std.specs.List.{AllByRecursion}
use Rattle.asl_model.specs.Intrinsic.{Reference, InInput, ItemIndex, InItem}
use Rattle.asl_model.specs.Machine.{Settings, Kind}
use Rattle.asl_model.specs.Path.{Segment}
use Rattle.asl_model.specs.Shape.{Shape, inhabited}
use Rattle.asl_model.specs.ShapeFlow.{DoubtfulPath, look, put, found, Doubt, MayBeMissing, MayFail, or_missing, reference_shape, call_shape, or_may_fail, doubts_at, doubts, element_doubts, field_doubts, filled_shape, unless_doubts, template_shape, FlowFault, MissingAt, FailsAt, MisfitAt, Flow, flow_then, doubt_fault, faults_of, template_flow, through_template, path_flow, through_path, placing_flow, through_placing, output_flow, result_flow, result_leaves, Leaving, WithResult, WithInput, Nothing, leaving, leave_by, leave}
use Rattle.asl_model.specs.Template.{Template, Literal, FromPath, FromCall, ArrayTemplate, ObjectTemplate, Templates, NoTemplates, AndTemplate, FieldTemplates, NoFieldTemplates, AndFieldTemplate}
use Rattle.asl_shape_paths.proofs.DoubtfulPaths.{IsRefused, found_refused}
use Rattle.asl_flow.proofs.PutDoubts.{Told, all_append}

-- the path of the doubt, if it is of one, is refused
abbrev pub IsOfRefused : Doubt → Type 0
IsOfRefused (MayBeMissing d) = IsErr (look d.path d.shape)
IsOfRefused MayFail = Unit {0}

-- so for each of the doubts
abbrev pub AreOfRefused : Told → Type 0
AreOfRefused told = AllByRecursion (λ (one : List ℕ × Doubt). IsOfRefused one.1) told

-- ---- templates

missing_refused : (r : Result Shape DoubtfulPath) → IsRefused r → IfErr (or_missing r) IsOfRefused
missing_refused (Ok s) h = tt
missing_refused (Err d) h = h

reference_refused : (reference : Reference) (input : Shape) (item : Option Shape) → IfErr (reference_shape reference input item) IsOfRefused
reference_refused (InInput path) input item = missing_refused (found path input) (found_refused path input)
reference_refused ItemIndex input None = tt
reference_refused ItemIndex input (Some s) = tt
reference_refused (InItem path) input None = tt
reference_refused (InItem path) input (Some s) = missing_refused (found path s) (found_refused path s)

call_refused : (shape : Option Shape) → IfErr (or_may_fail shape) IsOfRefused
call_refused None = tt
call_refused (Some s) = tt

one_refused : (name : List ℕ) (part : Result Shape Doubt) → IfErr part IsOfRefused → AreOfRefused (doubts_at name part)
one_refused name (Ok s) h = tt
one_refused name (Err doubt) h = (h, tt)

module _ (input : Shape) (item : Option Shape) where
  mutual
    each_refused : (template : Template) (name : List ℕ) → AreOfRefused (doubts template name input item)
    each_refused (Literal t) name = tt
    each_refused (FromPath reference) name = one_refused name (reference_shape reference input item) (reference_refused reference input item)
    each_refused (FromCall call) name = one_refused name (or_may_fail (call_shape call input item)) (call_refused (call_shape call input item))
    each_refused (ArrayTemplate elements) name = elements_refused elements name
    each_refused (ObjectTemplate fields) name = fields_refused fields

    elements_refused : (elements : Templates) (name : List ℕ) → AreOfRefused (element_doubts elements name input item)
    elements_refused NoTemplates name = tt
    elements_refused (AndTemplate template others) name = all_append (λ (one : List ℕ × Doubt). IsOfRefused one.1) (doubts template name input item) (element_doubts others name input item) (each_refused template name) (elements_refused others name)

    fields_refused : (fields : FieldTemplates) → AreOfRefused (field_doubts fields input item)
    fields_refused NoFieldTemplates = tt
    fields_refused (AndFieldTemplate n template others) = all_append (λ (one : List ℕ × Doubt). IsOfRefused one.1) (doubts template n input item) (field_doubts others input item) (each_refused template n) (fields_refused others)

  doubts_refused : (told : Told) (s : Shape) → AreOfRefused told → IfErr (unless_doubts told s) AreOfRefused
  doubts_refused [] s h = tt
  doubts_refused (one ∷ told) s h = h

  -- all of a template's doubts are such
  pub template_refused : (template : Template) → IfErr (template_shape template input item) AreOfRefused
  template_refused template = go (inhabited input) refl
    where
      go : (live : Bool) → inhabited input ≡ live → IfErr (template_shape template input item) AreOfRefused
      go true is = rw is (doubts_refused (doubts template [] input item) (filled_shape template input item) (each_refused template []))
      go false is = rw is tt

-- ---- the way out of a state

-- the path of the fault, if it is of one, is refused
abbrev pub IsFaultOfRefused : FlowFault → Type 0
IsFaultOfRefused (MissingAt field d) = IsErr (look d.path d.shape)
IsFaultOfRefused (FailsAt field) = Unit {0}
IsFaultOfRefused (MisfitAt field) = Unit {0}

-- so for each of the faults
abbrev pub AreFaultsOfRefused : List FlowFault → Type 0
AreFaultsOfRefused faults = AllByRecursion IsFaultOfRefused faults

-- a doubt as a fault
pub fault_refused : (field : List ℕ) (doubt : Doubt) → IsOfRefused doubt → IsFaultOfRefused (doubt_fault field doubt)
fault_refused field (MayBeMissing d) h = h
fault_refused field MayFail h = tt

faults_refused : (field : List ℕ) (told : Told) → AreOfRefused told → AreFaultsOfRefused (faults_of field told)
faults_refused field [] h = tt
faults_refused field (one ∷ told) h = (fault_refused field one.1 h.0, faults_refused field told h.1)

template_flow_refused : (field : List ℕ) (answer : Result Shape Told) → IfErr answer AreOfRefused → IfErr (template_flow field answer) AreFaultsOfRefused
template_flow_refused field (Ok s) h = tt
template_flow_refused field (Err told) h = faults_refused field told h

path_flow_refused : (field : List ℕ) (answer : Result Shape DoubtfulPath) → IsRefused answer → IfErr (path_flow field answer) AreFaultsOfRefused
path_flow_refused field (Ok s) h = tt
path_flow_refused field (Err d) h = (h, tt)

placing_refused : (field : List ℕ) (answer : Result Shape ℕ) → IfErr (placing_flow field answer) AreFaultsOfRefused
placing_refused field (Ok s) = tt
placing_refused field (Err at) = (tt, tt)

then_refused : (go_on : Shape → Flow) (first : Flow) → IfErr first AreFaultsOfRefused → ((s : Shape) → IfErr (go_on s) AreFaultsOfRefused) → IfErr (flow_then go_on first) AreFaultsOfRefused
then_refused go_on (Ok s) h k = k s
then_refused go_on (Err faults) h k = h

selecting_refused : (field : List ℕ) (template : Option Template) (s : Shape) → IfErr (through_template field template s) AreFaultsOfRefused
selecting_refused field None s = tt
selecting_refused field (Some template) s = template_flow_refused field (template_shape template s None) (template_refused s None template)

path_refused : (field : List ℕ) (path : Option (List Segment)) (s : Shape) → IfErr (through_path field path s) AreFaultsOfRefused
path_refused field None s = tt
path_refused field (Some path) s = path_flow_refused field (found path s) (found_refused path s)

put_refused : (field : List ℕ) (path : Option (List Segment)) (raw s : Shape) → IfErr (through_placing field path raw s) AreFaultsOfRefused
put_refused field None raw s = tt
put_refused field (Some path) raw s = placing_refused field (put path s raw)

module _ (settings : Settings) (raw work : Shape) where
  result_refused : IfErr (result_flow settings raw work) AreFaultsOfRefused
  result_refused =
      let selected = selecting_refused (codes "ResultSelector") settings.result_selector work in
      let placed = then_refused (through_placing (codes "ResultPath") settings.result_path raw) (through_template (codes "ResultSelector") settings.result_selector work) selected (λ s. put_refused (codes "ResultPath") settings.result_path raw s) in
      then_refused (output_flow settings) (flow_then (through_placing (codes "ResultPath") settings.result_path raw) (through_template (codes "ResultSelector") settings.result_selector work)) placed (λ s. path_refused (codes "OutputPath") settings.output_path s)

  by_leaving : (way : Leaving) → IfErr (leave_by way settings raw work) AreFaultsOfRefused
  by_leaving WithResult = go (inhabited raw && inhabited work) refl
    where
      go : (live : Bool) → (inhabited raw && inhabited work) ≡ live → IfErr (result_leaves settings raw work) AreFaultsOfRefused
      go true is = rw is result_refused
      go false is = rw is tt
  by_leaving WithInput = go (inhabited raw) refl
    where
      go : (live : Bool) → inhabited raw ≡ live → IfErr (leave_by WithInput settings raw work) AreFaultsOfRefused
      go true is = rw is (path_refused (codes "OutputPath") settings.output_path work)
      go false is = rw is tt
  by_leaving Nothing = tt

-- all faults on a state's way out are such
pub leave_refused : (settings : Settings) (kind : Kind) (raw work : Shape) → IfErr (leave settings kind raw work) AreFaultsOfRefused
leave_refused settings kind raw work = by_leaving settings raw work (leaving kind)
