-- What may stop a flow through a state: the faults that are told are exactly those that stand.
use Rattle.std.proofs.Common.{◌≡◌, ℕ, List, [], ◌∷◌, Contains, Bool, true, false, ◌&&◌, IsTrue, if◌then◌else◌, Option, Some, None, Result, Ok, Err, codes, refl, sym, ap, subst, ◌∙◌, ◌⊎◌, inl, inr}
use Rattle.std.proofs.lemmas.List.Elements.{Contains-append_left, Contains-append_right, Contains-append_cases}
use Rattle.asl_model.specs.Path.{Segment}
use Rattle.asl_model.specs.Template.{Template, Literal, FromPath, FromCall, ArrayTemplate, ObjectTemplate, Templates, NoTemplates, AndTemplate, FieldTemplates, NoFieldTemplates, AndFieldTemplate}
use Rattle.asl_model.specs.Machine.{Settings, Kind}
use Rattle.asl_model.specs.Shape.{Shape, Never, inhabited}
use Rattle.asl_model.specs.ShapeFlow.{DoubtfulPath, or_doubtful, look, found, put, Doubt, MayFail, reference_shape, call_shape, doubts, element_doubts, field_doubts, doubts_at, or_may_fail, filled_shape, unless_doubts, template_shape, FlowFault, MissingAt, MisfitAt, Flow, flow_then, doubt_fault, faults_of, template_flow, through_template, path_flow, through_path, placing_flow, through_placing, output_flow, result_flow, result_leaves, WithResult, leaving, leave_by, leave}
use Rattle.asl_model.specs.FindingRules.{IsSelected, GoesOut, goes_out_placed, goes_out_as_it_is}
use Rattle.asl_model.proofs.RunOptions.{same_err, ok_or_err}
use Rattle.asl_model.proofs.FindingShown.{HasDoubt, path_is_doubtful, call_is_doubtful, doubt_in_array, doubt_in_object, HaveDoubt, doubt_in_element, doubt_in_later, HasFieldDoubt, doubt_in_field, doubt_in_later_field}
use Rattle.asl_model.proofs.Listed.{none_in, first_in, first_or_later, map_in, in_map}

-- ---- doubts of a template

mutual
  -- a doubt is listed, with some name
  doubt_listed : {input : Shape} {item : Option Shape} {template : Template} {doubt : Doubt} → HasDoubt input item template doubt → (name : List ℕ) → (m : List ℕ) × Contains (doubts template name input item) (m, doubt)
  doubt_listed {doubt = doubt} (path_is_doubtful e) name = (name, subst (λ r. Contains (doubts_at name r) (name, doubt)) (sym e) (first_in (name, doubt) []))
  doubt_listed (call_is_doubtful e) name = (name, subst (λ o. Contains (doubts_at name (or_may_fail o)) (name, MayFail)) (sym e) (first_in (name, MayFail) []))
  doubt_listed (doubt_in_array d) name = elements_listed d name
  doubt_listed (doubt_in_object d) name = fields_listed d

  -- so for the elements
  elements_listed : {input : Shape} {item : Option Shape} {elements : Templates} {doubt : Doubt} → HaveDoubt input item elements doubt → (name : List ℕ) → (m : List ℕ) × Contains (element_doubts elements name input item) (m, doubt)
  elements_listed {input} {item} {doubt = doubt} (doubt_in_element {template = template} {others = others} d) name = let w = doubt_listed d name in (w.0, Contains-append_left (doubts template name input item) (element_doubts others name input item) (w.0, doubt) w.1)
  elements_listed {input} {item} {doubt = doubt} (doubt_in_later {template = template} {others = others} d) name = let w = elements_listed d name in (w.0, Contains-append_right (doubts template name input item) (element_doubts others name input item) (w.0, doubt) w.1)

  -- so for the fields
  fields_listed : {input : Shape} {item : Option Shape} {fields : FieldTemplates} {doubt : Doubt} → HasFieldDoubt input item fields doubt → (m : List ℕ) × Contains (field_doubts fields input item) (m, doubt)
  fields_listed {input} {item} {doubt = doubt} (doubt_in_field {m = n} {template = template} {others = others} d) = let w = doubt_listed d n in (w.0, Contains-append_left (doubts template n input item) (field_doubts others input item) (w.0, doubt) w.1)
  fields_listed {input} {item} {doubt = doubt} (doubt_in_later_field {m = n} {template = template} {others = others} d) = let w = fields_listed d in (w.0, Contains-append_right (doubts template n input item) (field_doubts others input item) (w.0, doubt) w.1)

-- what a doubtful part lists
one_told : {input : Shape} {item : Option Shape} {template : Template} (name : List ℕ) (r : Result Shape Doubt) (p : List ℕ × Doubt) → ((d : Doubt) → r ≡ Err d → HasDoubt input item template d) → Contains (doubts_at name r) p → HasDoubt input item template p.1
one_told name (Ok s) p stands c = none_in p c
one_told {input} {item} {template} name (Err d) p stands c = go (first_or_later (name, d) p [] c)
  where
    go : ((name, d) ≡ p) ⊎ Contains [] p → HasDoubt input item template p.1
    go (inl e) = subst (HasDoubt input item template) (ap (λ q. q.1) e) (stands d refl)
    go (inr c) = none_in p c

-- a call that may fail has no shape
may_fail_is : (o : Option Shape) (d : Doubt) → or_may_fail o ≡ Err d → (o ≡ None) × (d ≡ MayFail)
may_fail_is None d h = (refl, sym (same_err h))
may_fail_is (Some s) d h = ok_or_err h

mutual
  -- what is listed is a doubt
  doubt_told : (template : Template) (name : List ℕ) (input : Shape) (item : Option Shape) (p : List ℕ × Doubt) → Contains (doubts template name input item) p → HasDoubt input item template p.1
  doubt_told (Literal t) name input item p c = none_in p c
  doubt_told (FromPath reference) name input item p c = one_told name (reference_shape reference input item) p (λ d e. path_is_doubtful e) c
  doubt_told (FromCall call) name input item p c = one_told name (or_may_fail (call_shape call input item)) p (λ d e. let m = may_fail_is (call_shape call input item) d e in subst (HasDoubt input item (FromCall call)) (sym m.1) (call_is_doubtful m.0)) c
  doubt_told (ArrayTemplate elements) name input item p c = doubt_in_array (elements_told elements name input item p c)
  doubt_told (ObjectTemplate fields) name input item p c = doubt_in_object (fields_told fields input item p c)

  -- so for the elements
  elements_told : (elements : Templates) (name : List ℕ) (input : Shape) (item : Option Shape) (p : List ℕ × Doubt) → Contains (element_doubts elements name input item) p → HaveDoubt input item elements p.1
  elements_told NoTemplates name input item p c = none_in p c
  elements_told (AndTemplate template others) name input item p c = go (Contains-append_cases (doubts template name input item) (element_doubts others name input item) p c) (doubt_told template name input item p) (elements_told others name input item p)
    where
      go : Contains (doubts template name input item) p ⊎ Contains (element_doubts others name input item) p → (Contains (doubts template name input item) p → HasDoubt input item template p.1) → (Contains (element_doubts others name input item) p → HaveDoubt input item others p.1) → HaveDoubt input item (AndTemplate template others) p.1
      go (inl c) here later = doubt_in_element (here c)
      go (inr c) here later = doubt_in_later (later c)

  -- so for the fields
  fields_told : (fields : FieldTemplates) (input : Shape) (item : Option Shape) (p : List ℕ × Doubt) → Contains (field_doubts fields input item) p → HasFieldDoubt input item fields p.1
  fields_told NoFieldTemplates input item p c = none_in p c
  fields_told (AndFieldTemplate n template others) input item p c = go (Contains-append_cases (doubts template n input item) (field_doubts others input item) p c) (doubt_told template n input item p) (fields_told others input item p)
    where
      go : Contains (doubts template n input item) p ⊎ Contains (field_doubts others input item) p → (Contains (doubts template n input item) p → HasDoubt input item template p.1) → (Contains (field_doubts others input item) p → HasFieldDoubt input item others p.1) → HasFieldDoubt input item (AndFieldTemplate n template others) p.1
      go (inl c) here later = doubt_in_field (here c)
      go (inr c) here later = doubt_in_later_field (later c)

-- ---- templates in a flow

-- the fault of a doubt at a field, which a template tells
pub template_told : (field : List ℕ) (template : Template) (s : Shape) (item : Option Shape) (faults : List FlowFault) (f : FlowFault) → template_flow field (template_shape template s item) ≡ Err faults → Contains faults f → IsTrue (inhabited s) × ((d : Doubt) × HasDoubt s item template d × (doubt_fault field d ≡ f))
template_told field template s item faults f h c = go (inhabited s) refl h
  where
    listed : (ds : List (List ℕ × Doubt)) → doubts template [] s item ≡ ds → template_flow field (unless_doubts ds (filled_shape template s item)) ≡ Err faults → (d : Doubt) × HasDoubt s item template d × (doubt_fault field d ≡ f)
    listed [] e k = ok_or_err k
    listed (d ∷ ds) e k =
        let w = in_map (λ p. doubt_fault field p.1) (d ∷ ds) f (subst (λ fs. Contains fs f) (sym (same_err k)) c) in
        (w.0.1, doubt_told template [] s item w.0 (subst (λ l. Contains l w.0) (sym e) w.1), w.2)

    go : (t : Bool) → inhabited s ≡ t → template_flow field (if t then unless_doubts (doubts template [] s item) (filled_shape template s item) else Ok Never) ≡ Err faults → IsTrue (inhabited s) × ((d : Doubt) × HasDoubt s item template d × (doubt_fault field d ≡ f))
    go true e k = (e, listed (doubts template [] s item) refl k)
    go false e k = ok_or_err k

-- a doubt stops a flow, with its fault at the field
pub template_stops : (field : List ℕ) (template : Template) (s : Shape) (item : Option Shape) (d : Doubt) → IsTrue (inhabited s) → HasDoubt s item template d → (faults : List FlowFault) × (template_flow field (template_shape template s item) ≡ Err faults) × Contains faults (doubt_fault field d)
template_stops field template s item d some doubt = go (doubts template [] s item) refl (doubt_listed doubt [])
  where
    go : (ds : List (List ℕ × Doubt)) → doubts template [] s item ≡ ds → ((m : List ℕ) × Contains (doubts template [] s item) (m, d)) → (faults : List FlowFault) × (template_flow field (template_shape template s item) ≡ Err faults) × Contains faults (doubt_fault field d)
    go [] e w = none_in (w.0, d) (subst (λ l. Contains l (w.0, d)) e w.1)
    go (x ∷ ds) e w = (
      faults_of field (x ∷ ds),
      ap (λ t. template_flow field (if t then unless_doubts (doubts template [] s item) (filled_shape template s item) else Ok Never)) some ∙ ap (λ l. template_flow field (unless_doubts l (filled_shape template s item))) e,
      map_in (λ p. doubt_fault field p.1) (x ∷ ds) (w.0, d) (subst (λ l. Contains l (w.0, d)) e w.1),
    )

-- ---- steps of a flow

-- a flow that is stopped is stopped at first or later
pub stopped_at : (go_on : Shape → Flow) (o : Flow) (faults : List FlowFault) → flow_then go_on o ≡ Err faults → (o ≡ Err faults) ⊎ ((s : Shape) × (o ≡ Ok s) × (go_on s ≡ Err faults))
stopped_at go_on (Ok s) faults h = inr (s, refl, h)
stopped_at go_on (Err e) faults h = inl h

-- what a path is looked up to name is found
pub looked_found : (path : List Segment) (s : Shape) {part : Shape} → look path s ≡ Ok part → found path s ≡ Ok part
looked_found path s h = ap (or_doubtful path s) h

-- a path that is given stops a flow where it is doubtful
pub path_stopped : (field : List ℕ) (path : Option (List Segment)) (s : Shape) (faults : List FlowFault) (f : FlowFault) → through_path field path s ≡ Err faults → Contains faults f → (p : List Segment) × (doubtful : DoubtfulPath) × (path ≡ Some p) × (found p s ≡ Err doubtful) × (MissingAt field doubtful ≡ f)
path_stopped field None s faults f h c = ok_or_err h
path_stopped field (Some p) s faults f h c = go (found p s) refl h
  where
    first : (doubtful : DoubtfulPath) → (MissingAt field doubtful ≡ f) ⊎ Contains [] f → MissingAt field doubtful ≡ f
    first doubtful (inl e) = e
    first doubtful (inr none) = none_in f none

    go : (r : Result Shape DoubtfulPath) → found p s ≡ r → path_flow field r ≡ Err faults → (q : List Segment) × (doubtful : DoubtfulPath) × (Some p ≡ Some q) × (found q s ≡ Err doubtful) × (MissingAt field doubtful ≡ f)
    go (Ok t) e k = ok_or_err k
    go (Err doubtful) e k = (p, doubtful, refl, e, first doubtful (first_or_later (MissingAt field doubtful) f [] (subst (λ fs. Contains fs f) (sym (same_err k)) c)))

-- so for a placing that may not fit
pub placing_stopped : (path : Option (List Segment)) (raw s : Shape) (faults : List FlowFault) (f : FlowFault) → through_placing (codes "ResultPath") path raw s ≡ Err faults → Contains faults f → (p : List Segment) × (at : ℕ) × (path ≡ Some p) × (put p s raw ≡ Err at) × (MisfitAt (codes "ResultPath") ≡ f)
placing_stopped None raw s faults f h c = ok_or_err h
placing_stopped (Some p) raw s faults f h c = go (put p s raw) refl h
  where
    first : (MisfitAt (codes "ResultPath") ≡ f) ⊎ Contains [] f → MisfitAt (codes "ResultPath") ≡ f
    first (inl e) = e
    first (inr none) = none_in f none

    go : (r : Result Shape ℕ) → put p s raw ≡ r → placing_flow (codes "ResultPath") r ≡ Err faults → (q : List Segment) × (at : ℕ) × (Some p ≡ Some q) × (put q s raw ≡ Err at) × (MisfitAt (codes "ResultPath") ≡ f)
    go (Ok t) e k = ok_or_err k
    go (Err at) e k = (p, at, refl, e, first (first_or_later (MisfitAt (codes "ResultPath")) f [] (subst (λ fs. Contains fs f) (sym (same_err k)) c)))

-- a result's way out is stopped where the result has trees
pub result_stopped : (settings : Settings) (raw made : Shape) (faults : List FlowFault) → result_leaves settings raw made ≡ Err faults → IsTrue (inhabited made) × (result_flow settings raw made ≡ Err faults)
result_stopped settings raw made faults h = go (inhabited raw) (inhabited made) refl h
  where
    go : (r m : Bool) → inhabited made ≡ m → (if r && m then result_flow settings raw made else Ok Never) ≡ Err faults → IsTrue (inhabited made) × (result_flow settings raw made ≡ Err faults)
    go true true e k = (e, k)
    go true false e k = ok_or_err k
    go false m e k = ok_or_err k

-- ---- what is known of a way out

-- the way out of a result with trees
result_way : (settings : Settings) (kind : Kind) (raw made : Shape) → IsTrue (inhabited raw) → leaving kind ≡ WithResult → IsTrue (inhabited made) → leave settings kind raw made ≡ result_flow settings raw made
result_way settings kind raw made live with some =
    ap (λ l. leave_by l settings raw made) with
    ∙ (ap (λ t. if t && inhabited made then result_flow settings raw made else Ok Never) live
    ∙ ap (λ t. if t then result_flow settings raw made else Ok Never) some)

-- what `ResultSelector` may stop
pub selector_stops : (settings : Settings) (kind : Kind) (raw made : Shape) (template : Template) (d : Doubt) → IsTrue (inhabited raw) → leaving kind ≡ WithResult → settings.result_selector ≡ Some template → IsTrue (inhabited made) → HasDoubt made None template d → (faults : List FlowFault) × (leave settings kind raw made ≡ Err faults) × Contains faults (doubt_fault (codes "ResultSelector") d)
selector_stops settings kind raw made template d live with given some doubt =
    let w = template_stops (codes "ResultSelector") template made None d some doubt in (
      w.0,
      result_way settings kind raw made live with some
          ∙ ap (λ o. flow_then (output_flow settings) (flow_then (through_placing (codes "ResultPath") settings.result_path raw) o)) (ap (λ o. through_template (codes "ResultSelector") o made) given ∙ w.1),
      w.2,
    )

-- what `ResultPath` may stop
pub placing_stops : (settings : Settings) (kind : Kind) (raw made selected : Shape) (path : List Segment) (at : ℕ) → IsTrue (inhabited raw) → IsSelected settings kind made selected → settings.result_path ≡ Some path → put path selected raw ≡ Err at → leave settings kind raw made ≡ Err (MisfitAt (codes "ResultPath") ∷ [])
placing_stops settings kind raw made selected path at live selects given e =
    result_way settings kind raw made live selects.result selects.some
    ∙ (ap (λ o. flow_then (output_flow settings) (flow_then (through_placing (codes "ResultPath") settings.result_path raw) o)) selects.selects
    ∙ (ap (λ p. flow_then (output_flow settings) (through_placing (codes "ResultPath") p raw selected)) given
    ∙ ap (λ r. flow_then (output_flow settings) (placing_flow (codes "ResultPath") r)) e))

-- what `OutputPath` is applied to
way_out : (settings : Settings) (kind : Kind) (raw made s : Shape) → IsTrue (inhabited raw) → GoesOut settings kind raw made s → leave settings kind raw made ≡ output_flow settings s
way_out settings kind raw made s live (goes_out_placed selects placing) =
    result_way settings kind raw made live selects.result selects.some
    ∙ (ap (λ o. flow_then (output_flow settings) (flow_then (through_placing (codes "ResultPath") settings.result_path raw) o)) selects.selects
    ∙ ap (flow_then (output_flow settings)) placing)
way_out settings kind raw made s live (goes_out_as_it_is with) =
    ap (λ l. leave_by l settings raw made) with
    ∙ ap (λ t. if t then output_flow settings made else Ok Never) live

-- what `OutputPath` may stop
pub output_stops : (settings : Settings) (kind : Kind) (raw made s : Shape) (path : List Segment) (doubtful : DoubtfulPath) → IsTrue (inhabited raw) → GoesOut settings kind raw made s → settings.output_path ≡ Some path → found path s ≡ Err doubtful → leave settings kind raw made ≡ Err (MissingAt (codes "OutputPath") doubtful ∷ [])
output_stops settings kind raw made s path doubtful live goes given e =
    way_out settings kind raw made s live goes
    ∙ (ap (λ p. through_path (codes "OutputPath") p s) given
    ∙ ap (path_flow (codes "OutputPath")) e)
