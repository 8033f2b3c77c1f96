-- Every tree of a shape has what the shape is cut to.
use Rattle.std.proofs.Common.{◌≡◌, ℕ, zero, suc, List, Bool, ◌&&◌, ◌||◌, Option, Some, None, refl, ap, ap₂}
use Rattle.std.specs.Prelude.{IsTrue, bytes_eq}
use Rattle.std.proofs.lemmas.Bool.{and_parts, and_from, false≢true}
use Rattle.asl_model.specs.Tree.{Tree, Array, Object, Trees, NoTrees, AndTree, Fields, NoFields, AndField, field_named}
use Rattle.asl_model.specs.Shape.{Shape, Any, OfKinds, Arrays, WithoutArrays, ArraysOf, Objects, WithoutObjects, ObjectsOf, Shapes, NoShapes, AndShape, FieldShapes, NoFieldShapes, AndFieldShape, Has, has, Inside, arrays_have, objects_have, elements_have, each_element, fields_have, there_and, mentions, all_mentioned}
use Rattle.asl_draft_laws.specs.Cutting.{cut, cut_to, cut_arrays_to, cut_objects_to, cut_elements_to, cut_fields_to}

-- the same fields are mentioned
mentions-cut : (levels : ℕ) (n : List ℕ) (shapes : FieldShapes) → mentions n (cut_fields_to levels shapes) ≡ mentions n shapes
mentions-cut levels n NoFieldShapes = refl
mentions-cut levels n (AndFieldShape m needed s shapes) = ap (λ b. bytes_eq m n || b) (mentions-cut levels n shapes)

mentioned-cut : (levels : ℕ) (shapes : FieldShapes) (fs : Fields) → all_mentioned (cut_fields_to levels shapes) fs ≡ all_mentioned shapes fs
mentioned-cut levels shapes NoFields = refl
mentioned-cut levels shapes (AndField n t fs) = ap₂ (λ a b. a && b) (mentions-cut levels n shapes) (mentioned-cut levels shapes fs)

-- each element passes a test that more pass
each-more : (test more : Tree → Bool) → ((t : Tree) → IsTrue (test t) → IsTrue (more t)) → (ts : Trees) → IsTrue (each_element test ts) → IsTrue (each_element more ts)
each-more test more up NoTrees h = refl
each-more test more up (AndTree t ts) h =
    let both = and_parts (test t) (each_element test ts) h in
    and_from (more t) (each_element more ts) (up t both.0) (each-more test more up ts both.1)

-- so a field that is there
there-more : (needed : Bool) (test more : Tree → Bool) → ((t : Tree) → IsTrue (test t) → IsTrue (more t)) → (o : Option Tree) → IsTrue (there_and needed test o) → IsTrue (there_and needed more o)
there-more needed test more up None h = h
there-more needed test more up (Some t) h = up t h

mutual
  cut_to-above : (levels : ℕ) (s : Shape) (t : Tree) → Has s t → Has (cut_to levels s) t
  cut_to-above zero s t h = refl
  cut_to-above (suc levels) Any t h = refl
  cut_to-above (suc levels) (OfKinds simple arrays objects) (Array ts) h = arrays-above levels arrays ts h
  cut_to-above (suc levels) (OfKinds simple arrays objects) (Object fs) h = objects-above levels objects fs h
  cut_to-above (suc levels) (OfKinds simple arrays objects) t h = h

  arrays-above : (levels : ℕ) (arrays : Arrays) (ts : Trees) → IsTrue (arrays_have arrays ts) → IsTrue (arrays_have (cut_arrays_to levels arrays) ts)
  arrays-above levels WithoutArrays ts h = h
  arrays-above levels (ArraysOf first rest) ts h = elements-above levels first (has rest) (has (cut_to levels rest)) (λ t k. cut_to-above levels rest t k) ts h

  objects-above : (levels : ℕ) (objects : Objects) (fs : Fields) → IsTrue (objects_have objects fs) → IsTrue (objects_have (cut_objects_to levels objects) fs)
  objects-above levels WithoutObjects fs h = h
  objects-above levels (ObjectsOf shapes extra) fs h =
      let both = and_parts (fields_have shapes fs) (extra || all_mentioned shapes fs) h in
      and_from (fields_have (cut_fields_to levels shapes) fs) (extra || all_mentioned (cut_fields_to levels shapes) fs) (fields-above levels shapes fs both.0) (rw (mentioned-cut levels shapes fs) both.1)

  elements-above : (levels : ℕ) (first : Shapes) (test more : Tree → Bool) → ((t : Tree) → IsTrue (test t) → IsTrue (more t)) → (ts : Trees) → IsTrue (elements_have first test ts) → IsTrue (elements_have (cut_elements_to levels first) more ts)
  elements-above levels NoShapes test more up ts h = each-more test more up ts h
  elements-above levels (AndShape s others) test more up NoTrees h = absurd (false≢true h)
  elements-above levels (AndShape s others) test more up (AndTree t ts) h =
      let both = and_parts (has s t) (elements_have others test ts) h in
      and_from (has (cut_to levels s) t) (elements_have (cut_elements_to levels others) more ts) (cut_to-above levels s t both.0) (elements-above levels others test more up ts both.1)

  fields-above : (levels : ℕ) (shapes : FieldShapes) (fs : Fields) → IsTrue (fields_have shapes fs) → IsTrue (fields_have (cut_fields_to levels shapes) fs)
  fields-above levels NoFieldShapes fs h = refl
  fields-above levels (AndFieldShape n needed s shapes) fs h =
      let both = and_parts (there_and needed (has s) (field_named n fs)) (fields_have shapes fs) h in
      and_from (there_and needed (has (cut_to levels s)) (field_named n fs)) (fields_have (cut_fields_to levels shapes) fs) (there-more needed (has s) (has (cut_to levels s)) (λ t k. cut_to-above levels s t k) (field_named n fs) both.0) (fields-above levels shapes fs both.1)

pub cut-above : (s : Shape) → Inside s (cut s)
cut-above s t h = cut_to-above 48 s t h
