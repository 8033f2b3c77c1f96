-- What templates are filled to: the numbers of the shapes of the values of elements and fields that are gone through, with
-- all their doubts.
use Rattle.std.proofs.Common.{◌≡◌, ℕ, ◌≤◌, List, [], ◌∷◌, ◌++◌, length, map, take, Option, Result, Ok, Err, Vec, String, Global, true, string_bytes, string_cmp, refl, sym, ap, subst, ◌∙◌, append_assoc, rules}
use Rattle.std.proofs.lemmas.List.{append-nil, take_all}
use Rattle.std.specs.Prelude.{IfOk}
use Rattle.std.specs.BTreeMap.{BTreeMap}
use Rattle.std.specs.List.Sorted.{IsStrictlySortedBy}
use Rattle.std.specs.Map.{keys_of}
use Rattle.std.specs.Prelude.{IfOk}
use Rattle.asl_model.specs.Shape as model
use Rattle.asl_model.specs.ShapeFlow as flow
use Rattle.asl_model.specs.ShapeFlow.{doubts, element_doubts, field_doubts, filled_shape, filled_elements, filled_fields, template_flow}
use Rattle.asl_model.specs.ShapeOrder.{set_mention}
use Rattle.asl_model.specs.Template as template
use Rattle.asl_numbered.specs.declared.node.NodeField.{NodeField}
use Rattle.asl_numbered.specs.Expansion.{AreNumbersOf, AreFieldsOf, Keeps}
use Rattle.asl_template.specs.View.{view, elements_view, entries_view}
use Rattle.asl_template.specs.declared.template.Template.{Template, the_lemmas}
use Rattle.asl_template.specs.declared.template.Template as code
use Rattle.asl_flow.specs.Doubts.{fault_of, IsFlowIn}
use Rattle.asl_flow.specs.Leaving.{FlowsTo}
use Rattle.asl_flow.specs.TemplateAnswer.{told_at, named_fault, ArePutDown, IsFilled}
use Rattle.asl_flow.specs.declared.doubts.Doubt.{Doubt}
use Rattle.asl_flow.proofs.Composed.{shapes_by}
use Rattle.asl_flow.proofs.PutDoubts.{Told, put_behind}
use Rattle.asl_flow.proofs.Needed.{needed_by, set_in_order}
use Rattle.asl_numbered.specs.Names.{Name}

-- an entry of a template
abbrev pub Entry : Type 0
Entry = String Global × Template

module _ (input : model.Shape) (item : Option model.Shape) where
  -- the shape of a template's value
  abbrev pub of_value : Template → model.Shape
  of_value t = filled_shape (view t) input item

  -- ---- elements

  elements-more : (name : List ℕ) (ts : List Template) (t : Template) → element_doubts (elements_view (ts ++ t ∷ [])) name input item ≡ element_doubts (elements_view ts) name input item ++ doubts (view t) name input item
  elements-more name [] t = append-nil (doubts (view t) name input item)
  elements-more name (first ∷ ts) t = ap (λ told. doubts (view first) name input item ++ told) (elements-more name ts t) ∙ sym (append_assoc (doubts (view first) name input item) (element_doubts (elements_view ts) name input item) (doubts (view t) name input item))

  -- the doubts of one more element, in a table that has grown
  pub element_put : (old new : List model.Shape) (keeps : Keeps old new) (field name : List ℕ) (before after : List Template) (t : Template) (xs ys zs : List Doubt) → after ≡ before ++ t ∷ [] → ArePutDown old field (element_doubts (elements_view before) name input item) xs ys → ArePutDown new field (doubts (view t) name input item) ys zs
      → ArePutDown new field (element_doubts (elements_view after) name input item) xs zs
  element_put old new keeps field name before after t xs ys zs more h k =
      let both = put_behind old new keeps field (element_doubts (elements_view before) name input item) (doubts (view t) name input item) xs ys zs h k in
      rw (more, elements-more name before t) both

  -- those of all, once they are gone through
  pub elements_put : (table : List model.Shape) (field name : List ℕ) (ts : List Template) (i : ℕ) (xs ys : List Doubt) → length ts ≤ i → ArePutDown table field (element_doubts (elements_view (take i ts)) name input item) xs ys → ArePutDown table field (element_doubts (elements_view ts) name input item) xs ys
  elements_put table field name ts i xs ys end h = subst (λ us. ArePutDown table field (element_doubts (elements_view us) name input item) xs ys) (take_all i ts end) h

  elements_shown : (ts : List Template) → shapes_by of_value ts ≡ filled_elements (elements_view ts) input item
  elements_shown [] = refl
  elements_shown (t ∷ ts) = ap (model.AndShape (of_value t)) (elements_shown ts)

  -- the numbers of the elements' values, once all are gone through
  pub elements_end : (table : List model.Shape) (ts : List Template) (i : ℕ) (ns : List ℕ) → length ts ≤ i → AreNumbersOf table (shapes_by of_value (take i ts)) ns → AreNumbersOf table (filled_elements (elements_view ts) input item) ns
  elements_end table ts i ns end are = subst (λ ss. AreNumbersOf table ss ns) (ap (shapes_by of_value) (take_all i ts end) ∙ elements_shown ts) are

  -- ---- fields

  fields-more : (es : List Entry) (e : Entry) → field_doubts (entries_view (es ++ e ∷ [])) input item ≡ field_doubts (entries_view es) input item ++ doubts (view e.1) (string_bytes e.0) input item
  fields-more [] e = append-nil (doubts (view e.1) (string_bytes e.0) input item)
  fields-more (first ∷ es) e = ap (λ told. doubts (view first.1) (string_bytes first.0) input item ++ told) (fields-more es e) ∙ sym (append_assoc (doubts (view first.1) (string_bytes first.0) input item) (field_doubts (entries_view es) input item) (doubts (view e.1) (string_bytes e.0) input item))

  -- the doubts of one more field, under its name
  pub field_put : (old new : List model.Shape) (keeps : Keeps old new) (field name : List ℕ) (done : List Entry) (e : Entry) (xs ys zs : List Doubt) → name ≡ string_bytes e.0 → ArePutDown old field (field_doubts (entries_view done) input item) xs ys → ArePutDown new field (doubts (view e.1) name input item) ys zs
      → ArePutDown new field (field_doubts (entries_view (done ++ e ∷ [])) input item) xs zs
  field_put old new keeps field name done e xs ys zs named h k =
      let own = subst (λ n. ArePutDown new field (doubts (view e.1) n input item) ys zs) named k in
      let both = put_behind old new keeps field (field_doubts (entries_view done) input item) (doubts (view e.1) (string_bytes e.0) input item) xs ys zs h own in
      rw (fields-more done e) both

  -- those of all, once they are gone through
  pub fields_put : (table : List model.Shape) (field : List ℕ) (all done left : List Entry) (xs ys : List Doubt) → all ≡ done ++ left → left ≡ [] → ArePutDown table field (field_doubts (entries_view done) input item) xs ys → ArePutDown table field (field_doubts (entries_view all) input item) xs ys
  fields_put table field all done left xs ys split none h =
      let whole : all ≡ done = split ∙ ap (λ es. done ++ es) none ∙ append-nil done in
      subst (λ es. ArePutDown table field (field_doubts (entries_view es) input item) xs ys) (sym whole) h

  -- the shapes of the fields' values, where the names are in order
  fields_shown : (es : List Entry) → IsStrictlySortedBy string_cmp (keys_of es) → filled_fields (entries_view es) input item ≡ needed_by of_value es
  unfolding IsStrictlySortedBy
  fields_shown [] h = refl
  fields_shown (e ∷ es) h = ap (set_mention (string_bytes e.0) true (of_value e.1)) (fields_shown es h.1) ∙ set_in_order of_value e.0 (of_value e.1) es h.0

  -- the numbers of the fields' values, once all are gone through
  pub fields_end : (table : List model.Shape) (all done left : List Entry) (fs : List (Name × NodeField)) → all ≡ done ++ left → left ≡ [] → IsStrictlySortedBy string_cmp (keys_of all) → AreFieldsOf table (needed_by of_value done) fs → AreFieldsOf table (filled_fields (entries_view all) input item) fs
  fields_end table all done left fs split none sorted are =
      let whole : all ≡ done = split ∙ ap (λ es. done ++ es) none ∙ append-nil done in
      subst (λ ms. AreFieldsOf table ms fs) (ap (needed_by of_value) (sym whole) ∙ sym (fields_shown all sorted)) are

-- ---- what a template comes to, as a flow

module _ (table : List model.Shape) (field : List ℕ) where
  faults-told : (told : Told) (ds : List Doubt) → map (told_at field) told ≡ map (named_fault table) ds → flow.faults_of field told ≡ map (fault_of table) ds
  faults-told [] [] same = refl
  faults-told [] (d ∷ ds) same = absurd (cc)
  faults-told (first ∷ told) [] same = absurd (cc)
  faults-told (first ∷ told) (d ∷ ds) same =
      let own : told_at field first ≡ named_fault table d = cc in
      let behind : map (told_at field) told ≡ map (named_fault table) ds = cc in
      let fault : flow.doubt_fault field first.1 ≡ fault_of table d = ap (λ (x : List ℕ × flow.FlowFault). x.1) own in
      rw (fault, faults-told told ds behind) refl

  -- its shape goes on, and its doubts stop it
  pub filled_flows : (answer : Result model.Shape Told) (given : Result ℕ (Vec Doubt Global)) → IsFilled table field answer given → IsFlowIn (length table) given → FlowsTo table (template_flow field answer) given
  filled_flows (Ok s) (Ok n) is within = record { same = ap Ok is; within = within }
  filled_flows (Ok s) (Err v) is within = absurd is
  filled_flows (Err told) (Ok n) is within = absurd is
  filled_flows (Err told) (Err v) is within = record { same = ap Err (faults-told told v.items is); within = within }

  -- so where memory suffices
  pub flows_where_filled : {E : Type 0} (answer : Result model.Shape Told) (given : Result (Result ℕ (Vec Doubt Global)) E) → IfOk given (IsFilled table field answer) → IfOk given (IsFlowIn (length table)) → IfOk given (FlowsTo table (template_flow field answer))
  flows_where_filled answer (Ok one) is within = filled_flows answer one is within
  flows_where_filled answer (Err e) is within = tt

-- ---- lists and objects

module _ (input : model.Shape) (item : Option model.Shape) where
  template_list : (ts : Vec Template Global) → view (code.List ts) ≡ template.ArrayTemplate (elements_view ts.items)
  template_list ts = search (rules, the_lemmas)

  template_object : (m : BTreeMap (String Global) Template) → view (code.Object m) ≡ template.ObjectTemplate (entries_view m.entries)
  template_object m = search (rules, the_lemmas)

  -- the doubts of a list
  pub list_doubts : (t : Template) (ts : Vec Template Global) (name : List ℕ) → t ≡ code.List ts → doubts (view t) name input item ≡ element_doubts (elements_view ts.items) name input item
  list_doubts t ts name is = ap (λ p. doubts p name input item) (ap view is ∙ template_list ts)

  -- and those of an object
  pub object_doubts : (t : Template) (m : BTreeMap (String Global) Template) (name : List ℕ) → t ≡ code.Object m → doubts (view t) name input item ≡ field_doubts (entries_view m.entries) input item
  object_doubts t m name is = ap (λ p. doubts p name input item) (ap view is ∙ template_object m)
