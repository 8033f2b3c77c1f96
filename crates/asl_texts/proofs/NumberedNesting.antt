-- How deep what is written nests of a certificate that lists its shapes: by six levels at most.
use Rattle.std.proofs.Common.{◌≡◌, ◌≤◌, ℕ, pos, List, [], ◌∷◌, ◌++◌, not, Option, Some, None, option_map, unwrap_or, codes, refl, sym, subst, ◌∙◌, append_assoc, arith}
use Rattle.std.specs.Prelude.{IfSome}
use Rattle.std.specs.List.{AllByRecursion}
use Rattle.serde_json.specs.Read.{max_depth}
use Rattle.asl_model.specs.Certificate.{StateShapes, Certificate}
use Rattle.asl_model.specs.RecordShapes.{HoldsForState, HoldsForCertificate}
use Rattle.asl_model.specs.Shape.{Shape, Any, OfKinds, Arrays, WithoutArrays, ArraysOf, Objects, WithoutObjects, ObjectsOf, Shapes, NoShapes, AndShape, FieldShapes, NoFieldShapes, AndFieldShape, IsProperShape, type_names}
use Rattle.asl_model.specs.ShapeFlow.{how_many_shapes}
use Rattle.asl_model.specs.ShapeOrder.{is_any_shape}
use Rattle.asl_model.specs.Tree.{Tree, Integer, Object, Fields, NoFields, AndField}
use Rattle.asl_model.specs.Written.{some_shapes, some_fields, needed_names, some_names, are_closed, written_shape, written_list, written_entries, with_branches, with_item, with_listed, written_state, version_of}
use Rattle.asl_model.specs.WrittenNumbered.{place_of, reference, referring, places_referring, fields_referring, with_arrays_over, with_objects_over, written_over, written_numbered, shapes_listed}
use Rattle.asl_model.proofs.Listing.{AreBehind, IsListed, IsThere, PlacesAreThere, FieldsAreThere, ArraysAreThere, ObjectsAreThere, PartsAreThere, all_listed, parts_more}
use Rattle.asl_model.proofs.WrittenNesting.{nesting, elements_nesting, fields_nesting, array_nests, object_nests, type_nests, kinds_nest, shape_nests}

-- ---- a shape of the certificate, or a part of one that is listed

referred : (o : Option ℕ) (t : Tree) → nesting t ≤ 2 → nesting (unwrap_or (option_map reference o) t) ≤ 2
referred None t h = h
referred (Some i) t h = omega arith

module _ (listed : List Shape) where
  listed_nests : (s : Shape) → IsListed listed s → nesting (referring listed s) ≤ 2
  listed_nests s h = rw h.1 (omega arith)

  there_nests : (s : Shape) → IsThere listed s → nesting (referring listed s) ≤ 2
  there_nests Any h = referred (place_of Any listed) (written_shape Any) (omega arith)
  there_nests (OfKinds simple WithoutArrays WithoutObjects) h =
      let s = OfKinds simple WithoutArrays WithoutObjects in
      referred (place_of s listed) (written_shape s) (shape_nests s)
  there_nests (OfKinds simple (ArraysOf first rest) objects) h = listed_nests (OfKinds simple (ArraysOf first rest) objects) (h refl)
  there_nests (OfKinds simple WithoutArrays (ObjectsOf fields extra)) h = listed_nests (OfKinds simple WithoutArrays (ObjectsOf fields extra)) (h refl)

  places_nest : (first : Shapes) → PlacesAreThere listed first → elements_nesting (places_referring listed first) ≤ 2
  places_nest NoShapes h = omega arith
  places_nest (AndShape s first) h = omega (arith, there_nests s h.0, places_nest first h.1)

  fields_nest : (fields : FieldShapes) → FieldsAreThere listed fields → fields_nesting (fields_referring listed fields) ≤ 2
  fields_nest NoFieldShapes h = omega arith
  fields_nest (AndFieldShape n needed s fields) h = omega (arith, there_nests s h.0, fields_nest fields h.1)

-- ---- a listed shape

arrays_nest : (listed : List Shape) (arrays : Arrays) (others : Fields) → ArraysAreThere listed arrays → fields_nesting others ≤ 3 → fields_nesting (with_arrays_over listed arrays others) ≤ 3
arrays_nest listed WithoutArrays others h rest = rest
arrays_nest listed (ArraysOf first further) others h rest =
    array_nests 2 (not (is_any_shape further)) (some_shapes first) (referring listed further) (how_many_shapes first) (places_referring listed first) others (omega (arith, there_nests listed further h.1)) (places_nest listed first h.0) rest

objects_nest : (listed : List Shape) (objects : Objects) (others : Fields) → ObjectsAreThere listed objects → fields_nesting others ≤ 3 → fields_nesting (with_objects_over listed objects others) ≤ 3
objects_nest listed WithoutObjects others h rest = rest
objects_nest listed (ObjectsOf fields extra) others h rest =
    object_nests 2 (some_fields fields) (some_names (needed_names fields)) (fields_referring listed fields) (needed_names fields) others (fields_nest listed fields h) rest

over_nests : (listed : List Shape) (s : Shape) → PartsAreThere listed s → nesting (written_over listed s) ≤ 4
over_nests listed Any h = omega arith
over_nests listed (OfKinds simple arrays objects) h =
    let names = type_names simple arrays objects in
    kinds_nest 2 (are_closed objects) names _ (arrays_nest listed arrays _ h.1.0 (objects_nest listed objects _ h.1.1 (type_nests 2 names)))

listed_nest : (all done left : List Shape) → all ≡ done ++ left → AreBehind done left → elements_nesting (written_list (written_over all) left) ≤ 4
listed_nest all done [] whole h = omega arith
listed_nest all done (s ∷ left) whole h =
    let parts = subst (λ l. PartsAreThere l s) (sym whole) (parts_more s done (s ∷ left) h.0) in
    omega (arith, over_nests all s parts, listed_nest all (done ++ s ∷ []) left (whole ∙ sym (append_assoc done (s ∷ []) left)) h.2)

shapes_nest : (all : List Shape) (fs : Fields) → AreBehind [] all → fields_nesting fs ≤ 5 → (left : List Shape) → elements_nesting (written_list (written_over all) left) ≤ 4 → fields_nesting (with_listed (written_over all) left fs) ≤ 5
shapes_nest all fs behind h [] each = h
shapes_nest all fs behind h (s ∷ further) each = omega (arith, h, each)

-- ---- a certificate

module _ (listed : List Shape) where
  all_nest : (shapes : List Shape) → AllByRecursion (IsThere listed) shapes → elements_nesting (written_list (referring listed) shapes) ≤ 2
  all_nest [] h = omega arith
  all_nest (s ∷ shapes) h = omega (arith, there_nests listed s h.0, all_nest shapes h.1)

  item_nests : (item : Option Shape) (fs : Fields) → IfSome item (IsThere listed) → fields_nesting fs ≤ 3 → fields_nesting (with_item (referring listed) item fs) ≤ 3
  item_nests None fs h further = further
  item_nests (Some s) fs h further = omega (arith, there_nests listed s h, further)

  branches_nest : (branches : List Shape) (fs : Fields) → AllByRecursion (IsThere listed) branches → fields_nesting fs ≤ 3 → fields_nesting (with_branches (referring listed) branches fs) ≤ 3
  branches_nest [] fs h further = further
  branches_nest (s ∷ more) fs h further = omega (arith, all_nest (s ∷ more) h, further)

  state_nests : (shapes : StateShapes) → HoldsForState (IsThere listed) shapes → nesting (written_state (referring listed) shapes) ≤ 4
  state_nests shapes h =
      let output = AndField (codes "output") (referring listed shapes.output) NoFields in
      let item : fields_nesting (with_item (referring listed) shapes.item output) ≤ 3 = item_nests shapes.item output h.item (omega (arith, there_nests listed shapes.output h.output)) in
      let input = AndField (codes "input") (referring listed shapes.input) (with_item (referring listed) shapes.item output) in
      omega (arith, branches_nest shapes.branches input h.branches (omega (arith, there_nests listed shapes.input h.input, item)))

  states_nest : (states : List (List ℕ × StateShapes)) → AllByRecursion (λ (entry : List ℕ × StateShapes). HoldsForState (IsThere listed) entry.1) states → fields_nesting (written_entries (written_state (referring listed)) states) ≤ 4
  states_nest [] h = omega arith
  states_nest (entry ∷ more) h = omega (arith, state_nests entry.1 h.0, states_nest more h.1)

-- so what is written is read back
pub numbered_nests : (certificate : Certificate) → HoldsForCertificate IsProperShape certificate → nesting (written_numbered certificate) ≤ max_depth
numbered_nests certificate proper =
    let listed = shapes_listed certificate in
    let is = all_listed certificate proper in
    let states = AndField (codes "states") (Object (written_entries (written_state (referring listed)) certificate.states)) (AndField (codes "version") (Integer (pos (version_of certificate))) NoFields) in
    let each = listed_nest listed [] listed refl is.behind in
    omega (arith, there_nests listed certificate.output is.there.output, shapes_nest listed states is.behind (omega (arith, states_nest listed certificate.states is.there.states)) listed each)
