-- Where no shapes are given, what is read is what the tree spells by itself.
use Rattle.std.proofs.Common.{◌≡◌, ℕ, zero, suc, List, [], ◌∷◌, ◌++◌, Bool, true, Option, Some, None, Bor, false, Result, Ok, Err, refl, sym, ap, ◌∙◌, subst, ◌⊎◌, inl, inr, arith}
use Rattle.std.specs.Prelude.{option_to_list, IfOk, IfErr, IfSome}
use Rattle.std.specs.List.{Contains}
use Rattle.std.proofs.lemmas.List.Elements.{Contains-append_left, Contains-append_right, Contains-append_cases}
use Rattle.asl_model.specs.Shape as model
use Rattle.asl_model.specs.ShapeSpelling.{ShapeFault, SpellsShape, SpellsShapeV1, shape_faults, element_shapes, element_faults, field_shapes, field_faults, with_all_needed}
use Rattle.asl_model.specs.Tree.{Tree, Trees, NoTrees, AndTree, Fields, NoFields, AndField}
use Rattle.asl_shape.specs.Level.{Level, Whole, OfTypes, ListLevel, ObjectLevel, arrays_over, objects_over, shape_over, list_inner_faults, object_inner_faults, inner_faults, rest_shape, rest_faults}
use Rattle.asl_shape.specs.Refusal.{SpellsAs}
use Rattle.asl_shape.proofs.Wholes.{both_none, level_within}
use Rattle.asl_numbered.specs.declared.NumberedRefusal.{NumberedRefusal}
use Rattle.asl_numbered.specs.declared.NumberedRefusal.TheVariants as refusal
use Rattle.asl_numbered.specs.Expansion.{shape_at}
use Rattle.asl_numbered.specs.References.{SpellsWith, by_reference, by_level, SpellsOver, with_none_inside, with_kinds, SpellsArrays, without_arrays, with_elements, SpellsObjects, without_objects, with_properties, SpellEach, no_element, and_element, SpellsRest, no_rest, some_rest, SpellFields, no_field, and_field, inside, list_inside, object_inside, each_of, values_of, StandsIn, is_itself, stands_inside, shapes_given, TellsOf, TellsFault}

abbrev NoShapes : Option (List model.Shape)
NoShapes = None

module _ (several : Bool) where
  mutual
    pub spells_plain : {t : Tree} {s : model.Shape} → SpellsWith several NoShapes t s → SpellsAs several t s
    spells_plain (by_reference h) = absurd (cc)
    spells_plain (by_level over h) = let p = over_plain h in record { none_wrong = over.faults ∙ p.1; same = over.shape ∙ p.0 }

    over_plain : {level : Level} {s : model.Shape} → SpellsOver several NoShapes level s → (shape_over level ≡ s) × (inner_faults several level ≡ [])
    over_plain with_none_inside = (refl, refl)
    over_plain (with_kinds {simple = simple} {list = list} {object = object} {arrays = arrays} h r) =
        let p = arrays_plain h in
        let q = objects_plain r in
        (ap (λ a. model.OfKinds simple a (objects_over object)) p.0 ∙ ap (model.OfKinds simple arrays) q.0, both_none (list_inner_faults several list) (object_inner_faults several object) p.1 q.1)

    arrays_plain : {list : Option ListLevel} {arrays : model.Arrays} → SpellsArrays several NoShapes list arrays → (arrays_over list ≡ arrays) × (list_inner_faults several list ≡ [])
    arrays_plain without_arrays = (refl, refl)
    arrays_plain (with_elements {list = list} {places = places} h r) =
        let p = each_plain h in
        let q = rest_plain r in
        (ap (λ ss. model.ArraysOf ss (rest_shape list.rest)) p.0 ∙ ap (model.ArraysOf places) q.0, both_none (element_faults several list.first) (rest_faults several list.rest) p.1 q.1)

    objects_plain : {object : Option ObjectLevel} {objects : model.Objects} → SpellsObjects several NoShapes object objects → (objects_over object ≡ objects) × (object_inner_faults several object ≡ [])
    objects_plain without_objects = (refl, refl)
    objects_plain (with_properties {object = object} h) =
        let p = fields_plain h in
        (ap (λ ms. model.ObjectsOf (with_all_needed object.extra object.names ms) object.extra) p.0, p.1)

    each_plain : {ts : Trees} {ss : model.Shapes} → SpellEach several NoShapes ts ss → (element_shapes ts ≡ ss) × (element_faults several ts ≡ [])
    each_plain no_element = (refl, refl)
    each_plain (and_element {t = t} {s = s} {ts = ts} h further) =
        let own = spells_plain h in
        let p = each_plain further in
        (ap (λ x. model.AndShape x (element_shapes ts)) own.same ∙ ap (model.AndShape s) p.0, both_none (shape_faults several t) (element_faults several ts) own.none_wrong p.1)

    rest_plain : {rest : Option Tree} {s : model.Shape} → SpellsRest several NoShapes rest s → (rest_shape rest ≡ s) × (rest_faults several rest ≡ [])
    rest_plain no_rest = (refl, refl)
    rest_plain (some_rest h) = let own = spells_plain h in (own.same, own.none_wrong)

    fields_plain : {fs : Fields} {ss : model.FieldShapes} → SpellFields several NoShapes fs ss → (field_shapes fs ≡ ss) × (field_faults several fs ≡ [])
    fields_plain no_field = (refl, refl)
    fields_plain (and_field {n = n} {t = t} {s = s} {fs = fs} h further) =
        let own = spells_plain h in
        let p = fields_plain further in
        (ap (λ x. model.AndFieldShape n false x (field_shapes fs)) own.same ∙ ap (model.AndFieldShape n false s) p.0, both_none (shape_faults several t) (field_faults several fs) own.none_wrong p.1)

-- ---- faults

contained_alone : (t part : Tree) → Contains (t ∷ []) part → t ≡ part
contained_alone t part (zero, h, e) = e
contained_alone t part (suc k, h, e) = absurd (omega (arith, h))

module _ (several : Bool) where
  element_fault : (ts : Trees) (part : Tree) (f : ShapeFault) → Contains (each_of ts) part → Contains (shape_faults several part) f → Contains (element_faults several ts) f
  element_fault NoTrees part f (k, h, e) fault = absurd (omega (arith, h))
  element_fault (AndTree t ts) part f there fault = go (Contains-append_cases (t ∷ []) (each_of ts) part there) (λ later. element_fault ts part f later fault)
    where
      go : Contains (t ∷ []) part ⊎ Contains (each_of ts) part → (Contains (each_of ts) part → Contains (element_faults several ts) f) → Contains (shape_faults several t ++ element_faults several ts) f
      go (inl here) behind = Contains-append_left (shape_faults several t) (element_faults several ts) f (subst (λ x. Contains (shape_faults several x) f) (sym (contained_alone t part here)) fault)
      go (inr later) behind = Contains-append_right (shape_faults several t) (element_faults several ts) f (behind later)

  field_fault : (fs : Fields) (part : Tree) (f : ShapeFault) → Contains (values_of fs) part → Contains (shape_faults several part) f → Contains (field_faults several fs) f
  field_fault NoFields part f (k, h, e) fault = absurd (omega (arith, h))
  field_fault (AndField n t fs) part f there fault = go (Contains-append_cases (t ∷ []) (values_of fs) part there) (λ later. field_fault fs part f later fault)
    where
      go : Contains (t ∷ []) part ⊎ Contains (values_of fs) part → (Contains (values_of fs) part → Contains (field_faults several fs) f) → Contains (shape_faults several t ++ field_faults several fs) f
      go (inl here) behind = Contains-append_left (shape_faults several t) (field_faults several fs) f (subst (λ x. Contains (shape_faults several x) f) (sym (contained_alone t part here)) fault)
      go (inr later) behind = Contains-append_right (shape_faults several t) (field_faults several fs) f (behind later)

  rest_fault : (rest : Option Tree) (part : Tree) (f : ShapeFault) → Contains (option_to_list rest) part → Contains (shape_faults several part) f → Contains (rest_faults several rest) f
  rest_fault None part f (k, h, e) fault = absurd (omega (arith, h))
  rest_fault (Some t) part f there fault = subst (λ x. Contains (shape_faults several x) f) (sym (contained_alone t part there)) fault

  list_fault : (list : Option ListLevel) (part : Tree) (f : ShapeFault) → Contains (list_inside list) part → Contains (shape_faults several part) f → Contains (list_inner_faults several list) f
  list_fault None part f (k, h, e) fault = absurd (omega (arith, h))
  list_fault (Some list) part f there fault = go (Contains-append_cases (each_of list.first) (option_to_list list.rest) part there)
    where
      go : Contains (each_of list.first) part ⊎ Contains (option_to_list list.rest) part → Contains (element_faults several list.first ++ rest_faults several list.rest) f
      go (inl a) = Contains-append_left (element_faults several list.first) (rest_faults several list.rest) f (element_fault list.first part f a fault)
      go (inr a) = Contains-append_right (element_faults several list.first) (rest_faults several list.rest) f (rest_fault list.rest part f a fault)

  object_fault : (object : Option ObjectLevel) (part : Tree) (f : ShapeFault) → Contains (object_inside object) part → Contains (shape_faults several part) f → Contains (object_inner_faults several object) f
  object_fault None part f (k, h, e) fault = absurd (omega (arith, h))
  object_fault (Some object) part f there fault = field_fault object.properties part f there fault

  pub inner_fault : (level : Level) (part : Tree) (f : ShapeFault) → Contains (inside level) part → Contains (shape_faults several part) f → Contains (inner_faults several level) f
  inner_fault (Whole s) part f (k, h, e) fault = absurd (omega (arith, h))
  inner_fault (OfTypes simple list object) part f there fault = go (Contains-append_cases (list_inside list) (object_inside object) part there)
    where
      go : Contains (list_inside list) part ⊎ Contains (object_inside object) part → Contains (list_inner_faults several list ++ object_inner_faults several object) f
      go (inl a) = Contains-append_left (list_inner_faults several list) (object_inner_faults several object) f (list_fault list part f a fault)
      go (inr a) = Contains-append_right (list_inner_faults several list) (object_inner_faults several object) f (object_fault object part f a fault)

  place_fault : {place t : Tree} (f : ShapeFault) → StandsIn several place t → Contains (shape_faults several place) f → Contains (shape_faults several t) f
  place_fault f is_itself fault = fault
  place_fault f (stands_inside {part = part} {level = level} over one there) fault =
      subst (λ fs. Contains fs f) (sym over.faults) (inner_fault level part f one (place_fault f there fault))

  pub tells_plain : (t : Tree) (e : NumberedRefusal) → TellsOf several NoShapes t e → TellsFault several t e
  tells_plain t (refusal.Shape e) told =
      let said = told.said in
      let fault = said.2 in
      record { listed = subst (λ o. IfSome o (Contains (shape_faults several t))) (sym said.1) (place_fault said.0 fault.there (level_within several fault.place said.0 fault.listed)) }
  tells_plain t refusal.BadNumber told = let wrong = told.said.wrong in absurd (cc)
  tells_plain t refusal.OutOfMemory told = tt

-- ---- answers

none_given : (table : List model.Shape) (given : Option (Bor (List ℕ))) → given ≡ None → shapes_given table given ≡ NoShapes
none_given table given none = ap (shapes_given table) none

pub spelled_alone : (several : Bool) (old new : List model.Shape) (given : Option (Bor (List ℕ))) (t : Tree) (r : Result ℕ NumberedRefusal) → given ≡ None → IfOk r (λ n. SpellsWith several (shapes_given old given) t (shape_at new n)) → IfOk r (λ n. SpellsAs several t (shape_at new n))
spelled_alone several old new given t (Ok n) none h = spells_plain several (subst (λ gs. SpellsWith several gs t (shape_at new n)) (none_given old given none) h)
spelled_alone several old new given t (Err e) none h = tt

pub as_spelled : (new : List model.Shape) (t : Tree) (r : Result ℕ NumberedRefusal) → IfOk r (λ n. SpellsAs true t (shape_at new n)) → IfOk r (λ n. SpellsShape t (shape_at new n))
as_spelled new t (Ok n) h = record { none_wrong = h.none_wrong; same = h.same }
as_spelled new t (Err e) h = tt

pub as_spelled_v1 : (new : List model.Shape) (t : Tree) (r : Result ℕ NumberedRefusal) → IfOk r (λ n. SpellsAs false t (shape_at new n)) → IfOk r (λ n. SpellsShapeV1 t (shape_at new n))
as_spelled_v1 new t (Ok n) h = record { none_wrong = h.none_wrong; same = h.same }
as_spelled_v1 new t (Err e) h = tt

pub refused_alone : (several : Bool) (old : List model.Shape) (given : Option (Bor (List ℕ))) (t : Tree) (r : Result ℕ NumberedRefusal) → given ≡ None → IfErr r (TellsOf several (shapes_given old given) t) → IfErr r (TellsFault several t)
refused_alone several old given t (Ok n) none h = tt
refused_alone several old given t (Err e) none h = tells_plain several t e (subst (λ gs. TellsOf several gs t e) (none_given old given none) h)
