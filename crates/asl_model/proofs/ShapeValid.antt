-- The test of membership in a shape is true exactly where the tree is valid against it.
use Rattle.std.proofs.Common.{◌≡◌, ◌↔◌, ℕ, List, Bool, true, false, Option, Some, None, refl, ap, subst, ◌∙◌, ◌⊎◌, inl, inr}
use Rattle.std.specs.Prelude.{IsTrue, bytes_eq}
use Rattle.std.proofs.lemmas.Bool.{and_parts, and_from, or_cases, or_left, or_right, false≢true}
use Rattle.std.proofs.lemmas.Slice.Eq.{bytes_eq-Decides}
use Rattle.asl_model.specs.Tree.{Tree, Null, Boolean, Integer, Text, Array, Object, Trees, NoTrees, AndTree, Fields, NoFields, AndField, field_named}
use Rattle.asl_model.specs.Shape.{Shape, Any, OfKinds, WithoutArrays, ArraysOf, WithoutObjects, ObjectsOf, Shapes, NoShapes, AndShape, FieldShapes, NoFieldShapes, AndFieldShape, Has, has, elements_have, each_element, fields_have, there_and, mentions, all_mentioned, IsMentioned, mentioned_first, mentioned_later, AreMentioned, none_to_mention, and_mentioned, IsValid, any_is_valid, null_is_valid, boolean_is_valid, integer_is_valid, text_is_valid, array_is_valid, open_object_is_valid, closed_object_is_valid, HasValidElements, no_further_element, further_element_is_valid, first_element_is_valid, HasValidFields, no_field_mentioned, present_field_is_valid, absent_field_is_valid}

-- ---- mentions

-- a mentioned name is found
mention_found : {n : List ℕ} {shapes : FieldShapes} → IsMentioned n shapes → IsTrue (mentions n shapes)
mention_found (mentioned_first {n = n} {shapes = shapes}) = or_left (bytes_eq n n) (mentions n shapes) ((bytes_eq-Decides n n).1 refl)
mention_found (mentioned_later {n = n} {m = m} {shapes = shapes} h) = or_right (bytes_eq m n) (mentions n shapes) (mention_found h)

-- a name that is found is mentioned
found_mention : (n : List ℕ) (shapes : FieldShapes) → IsTrue (mentions n shapes) → IsMentioned n shapes
found_mention n NoFieldShapes h = absurd (false≢true h)
found_mention n (AndFieldShape m needed s shapes) h = go (or_cases (bytes_eq m n) (mentions n shapes) h) (found_mention n shapes)
  where
    go : IsTrue (bytes_eq m n) ⊎ IsTrue (mentions n shapes) → (IsTrue (mentions n shapes) → IsMentioned n shapes) → IsMentioned n (AndFieldShape m needed s shapes)
    go (inl same) later = subst (λ k. IsMentioned k (AndFieldShape m needed s shapes)) ((bytes_eq-Decides m n).0 same) mentioned_first
    go (inr there) later = mentioned_later (later there)

-- so for each field of an object
mentions_found : {fs : Fields} {shapes : FieldShapes} → AreMentioned fs shapes → IsTrue (all_mentioned shapes fs)
mentions_found none_to_mention = refl
mentions_found (and_mentioned {n = n} {fs = fs} {shapes = shapes} h further) = and_from (mentions n shapes) (all_mentioned shapes fs) (mention_found h) (mentions_found further)

-- and the other way round
found_mentions : (fs : Fields) (shapes : FieldShapes) → IsTrue (all_mentioned shapes fs) → AreMentioned fs shapes
found_mentions NoFields shapes h = none_to_mention
found_mentions (AndField n t fs) shapes h =
    let both = and_parts (mentions n shapes) (all_mentioned shapes fs) h in
    and_mentioned (found_mention n shapes both.0) (found_mentions fs shapes both.1)

-- ---- what is valid passes the test

mutual
  -- a tree that is valid passes
  valid_has : {s : Shape} {t : Tree} → IsValid s t → Has s t
  valid_has any_is_valid = refl
  valid_has (null_is_valid h) = h
  valid_has (boolean_is_valid h) = h
  valid_has (integer_is_valid h) = h
  valid_has (text_is_valid h) = h
  valid_has (array_is_valid h) = valid_elements h
  valid_has (open_object_is_valid {shapes = shapes} {fs = fs} h) = and_from (fields_have shapes fs) true (valid_fields h) refl
  valid_has (closed_object_is_valid {shapes = shapes} {fs = fs} h mentioned) = and_from (fields_have shapes fs) (all_mentioned shapes fs) (valid_fields h) (mentions_found mentioned)

  -- so do elements
  valid_elements : {first : Shapes} {rest : Shape} {ts : Trees} → HasValidElements first rest ts → IsTrue (elements_have first (has rest) ts)
  valid_elements no_further_element = refl
  valid_elements (further_element_is_valid {rest = rest} {t = t} {ts = ts} h further) = and_from (has rest t) (each_element (has rest) ts) (valid_has h) (valid_elements further)
  valid_elements (first_element_is_valid {s = s} {others = others} {rest = rest} {t = t} {ts = ts} h further) = and_from (has s t) (elements_have others (has rest) ts) (valid_has h) (valid_elements further)

  -- so do fields
  valid_fields : {shapes : FieldShapes} {fs : Fields} → HasValidFields shapes fs → IsTrue (fields_have shapes fs)
  valid_fields no_field_mentioned = refl
  valid_fields (present_field_is_valid {n = n} {needed = needed} {s = s} {shapes = shapes} {fs = fs} {t = t} e h further) = and_from (there_and needed (has s) (field_named n fs)) (fields_have shapes fs) (ap (there_and needed (has s)) e ∙ valid_has h) (valid_fields further)
  valid_fields (absent_field_is_valid {n = n} {s = s} {shapes = shapes} {fs = fs} e further) = and_from (there_and false (has s) (field_named n fs)) (fields_have shapes fs) (ap (there_and false (has s)) e) (valid_fields further)

-- ---- what passes the test is valid

-- each further element is valid where each tree that passes is
further_valid : (rest : Shape) (ts : Trees) → ((t : Tree) → Has rest t → IsValid rest t) → IsTrue (each_element (has rest) ts) → HasValidElements NoShapes rest ts
further_valid rest NoTrees inner h = no_further_element
further_valid rest (AndTree t ts) inner h =
    let both = and_parts (has rest t) (each_element (has rest) ts) h in
    further_element_is_valid (inner t both.0) (further_valid rest ts inner both.1)

-- a mentioned field is valid where each tree that passes is
field_valid : (n : List ℕ) (needed : Bool) (s : Shape) (shapes : FieldShapes) (fs : Fields) (value : Option Tree) → field_named n fs ≡ value → IsTrue (there_and needed (has s) value) → ((t : Tree) → Has s t → IsValid s t) → HasValidFields shapes fs → HasValidFields (AndFieldShape n needed s shapes) fs
field_valid n true s shapes fs None e h inner further = absurd (false≢true h)
field_valid n false s shapes fs None e h inner further = absent_field_is_valid e further
field_valid n needed s shapes fs (Some t) e h inner further = present_field_is_valid e (inner t h) further

mutual
  -- a tree that passes is valid
  has_valid : (s : Shape) (t : Tree) → Has s t → IsValid s t
  has_valid Any t h = any_is_valid
  has_valid (OfKinds simple arrays objects) Null h = null_is_valid h
  has_valid (OfKinds simple arrays objects) (Boolean b) h = boolean_is_valid h
  has_valid (OfKinds simple arrays objects) (Integer n) h = integer_is_valid h
  has_valid (OfKinds simple arrays objects) (Text s) h = text_is_valid h
  has_valid (OfKinds simple WithoutArrays objects) (Array ts) h = absurd (false≢true h)
  has_valid (OfKinds simple (ArraysOf first rest) objects) (Array ts) h = array_is_valid (elements_valid first rest ts (has_valid rest) h)
  has_valid (OfKinds simple arrays WithoutObjects) (Object fs) h = absurd (false≢true h)
  has_valid (OfKinds simple arrays (ObjectsOf shapes true)) (Object fs) h = open_object_is_valid (fields_valid shapes fs (and_parts (fields_have shapes fs) true h).0)
  has_valid (OfKinds simple arrays (ObjectsOf shapes false)) (Object fs) h =
      let both = and_parts (fields_have shapes fs) (all_mentioned shapes fs) h in
      closed_object_is_valid (fields_valid shapes fs both.0) (found_mentions fs shapes both.1)

  -- so are elements
  elements_valid : (first : Shapes) (rest : Shape) (ts : Trees) → ((t : Tree) → Has rest t → IsValid rest t) → IsTrue (elements_have first (has rest) ts) → HasValidElements first rest ts
  elements_valid NoShapes rest ts inner h = further_valid rest ts inner h
  elements_valid (AndShape s others) rest NoTrees inner h = absurd (false≢true h)
  elements_valid (AndShape s others) rest (AndTree t ts) inner h =
      let both = and_parts (has s t) (elements_have others (has rest) ts) h in
      first_element_is_valid (has_valid s t both.0) (elements_valid others rest ts inner both.1)

  -- so are fields
  fields_valid : (shapes : FieldShapes) (fs : Fields) → IsTrue (fields_have shapes fs) → HasValidFields shapes fs
  fields_valid NoFieldShapes fs h = no_field_mentioned
  fields_valid (AndFieldShape n needed s shapes) fs h =
      let both = and_parts (there_and needed (has s) (field_named n fs)) (fields_have shapes fs) h in
      field_valid n needed s shapes fs (field_named n fs) refl both.0 (has_valid s) (fields_valid shapes fs both.1)

-- both ways
pub valid_exactly : (s : Shape) (t : Tree) → IsValid s t ↔ Has s t
valid_exactly s t = (valid_has, has_valid s t)
