-- A shape is inside the one whose objects may have other fields; how that one is built part by part.
use Rattle.std.proofs.Common.{◌≡◌, ℕ, List, [], ◌∷◌, ◌++◌, map, Bool, true, ◌||◌, Option, Some, None, String, Global, string_bytes, string_cmp, refl, sym, ap, ◌∙◌, subst, Ordering, Less, Equal, Greater}
use Rattle.std.specs.BTreeMap.{insert_entry}
use Rattle.std.specs.Cmp.Lexicographic.{slice_cmp}
use Rattle.std.specs.List.Sorted.{IsStrictlySortedBy}
use Rattle.std.specs.Map.{keys_of}
use Rattle.std.specs.Ordering.{nat_cmp, match_ordering}
use Rattle.std.specs.Prelude.{IfOk, IsTrue, Result, Ok, Err}
use Rattle.std.proofs.lemmas.Bool.{and_parts, and_from, false≢true}
use Rattle.std.proofs.lemmas.List.{map-append}
use Rattle.asl_model.specs.Tree.{Tree, Null, Boolean, Integer, Text, Array, Object, Trees, NoTrees, AndTree, Fields, field_named}
use Rattle.asl_model.specs.Shape.{Shape, Any, OfKinds, Arrays, WithoutArrays, ArraysOf, Objects, WithoutObjects, ObjectsOf, Shapes, NoShapes, AndShape, FieldShapes, NoFieldShapes, AndFieldShape, Inside, has, arrays_have, objects_have, elements_have, each_element, fields_have, there_and, all_mentioned}
use Rattle.asl_tree.specs.declared.OutOfMemory.{OutOfMemory}
use Rattle.asl_shape.specs.View.{view, shapes_of, fields_view}
use Rattle.asl_shape.specs.declared.shape.Shape as code
use Rattle.asl_shape.specs.declared.shape.Field.{Field}
use Rattle.asl_shape.proofs.Copies.{field_copied}
use Rattle.asl_shape.proofs.Spellings.{Mention, put, put_shown}
use Rattle.asl_samples.specs.Opened.{opened, opened_arrays, opened_objects, opened_each, opened_fields}

-- ---- inside

-- each further element of a shape has one that the shape is inside
further_opened : (rest wider : Shape) (ts : Trees) → Inside rest wider → IsTrue (each_element (has rest) ts) → IsTrue (each_element (has wider) ts)
further_opened rest wider NoTrees up h = refl
further_opened rest wider (AndTree t ts) up h =
    let both = and_parts (has rest t) (each_element (has rest) ts) h in
    and_from (has wider t) (each_element (has wider) ts) (up t both.0) (further_opened rest wider ts up both.1)

-- a field that is there has the wider shape
there_opened : (needed : Bool) (s wider : Shape) (value : Option Tree) → Inside s wider → IsTrue (there_and needed (has s) value) → IsTrue (there_and needed (has wider) value)
there_opened needed s wider None up h = h
there_opened needed s wider (Some t) up h = up t h

mutual
  -- every tree of the shape has the opened one
  pub inside_opened : (s : Shape) → Inside s (opened s)
  inside_opened Any t h = refl
  inside_opened (OfKinds simple arrays objects) Null h = h
  inside_opened (OfKinds simple arrays objects) (Boolean b) h = h
  inside_opened (OfKinds simple arrays objects) (Integer n) h = h
  inside_opened (OfKinds simple arrays objects) (Text s) h = h
  inside_opened (OfKinds simple arrays objects) (Array ts) h = inside_arrays arrays ts h
  inside_opened (OfKinds simple arrays objects) (Object fs) h = inside_objects objects fs h

  inside_arrays : (arrays : Arrays) (ts : Trees) → IsTrue (arrays_have arrays ts) → IsTrue (arrays_have (opened_arrays arrays) ts)
  inside_arrays WithoutArrays ts h = absurd (false≢true h)
  inside_arrays (ArraysOf first rest) ts h = inside_elements first rest ts (inside_opened rest) h

  inside_elements : (first : Shapes) (rest : Shape) (ts : Trees) → Inside rest (opened rest) → IsTrue (elements_have first (has rest) ts) → IsTrue (elements_have (opened_each first) (has (opened rest)) ts)
  inside_elements NoShapes rest ts up h = further_opened rest (opened rest) ts up h
  inside_elements (AndShape s others) rest NoTrees up h = absurd (false≢true h)
  inside_elements (AndShape s others) rest (AndTree t ts) up h =
      let both = and_parts (has s t) (elements_have others (has rest) ts) h in
      and_from (has (opened s) t) (elements_have (opened_each others) (has (opened rest)) ts) (inside_opened s t both.0) (inside_elements others rest ts up both.1)

  inside_objects : (objects : Objects) (fs : Fields) → IsTrue (objects_have objects fs) → IsTrue (objects_have (opened_objects objects) fs)
  inside_objects WithoutObjects fs h = absurd (false≢true h)
  inside_objects (ObjectsOf shapes extra) fs h =
      and_from (fields_have (opened_fields shapes) fs) true (inside_fields shapes fs (and_parts (fields_have shapes fs) (extra || all_mentioned shapes fs) h).0) refl

  inside_fields : (shapes : FieldShapes) (fs : Fields) → IsTrue (fields_have shapes fs) → IsTrue (fields_have (opened_fields shapes) fs)
  inside_fields NoFieldShapes fs h = refl
  inside_fields (AndFieldShape n needed s shapes) fs h =
      let both = and_parts (there_and needed (has s) (field_named n fs)) (fields_have shapes fs) h in
      and_from (there_and needed (has (opened s)) (field_named n fs)) (fields_have (opened_fields shapes) fs) (there_opened needed s (opened s) (field_named n fs) (inside_opened s) both.0) (inside_fields shapes fs both.1)

-- the same of a shape that shows the opened one
pub inside_shown : (s k : Shape) (result : Result code.Shape OutOfMemory) → k ≡ opened s → IfOk result (λ r. view r ≡ k) → IfOk result (λ r. Inside s (view r))
inside_shown s k (Ok r) is shown = subst (Inside s) (sym (shown ∙ is)) (inside_opened s)
inside_shown s k (Err e) is shown = tt

-- ---- part by part

-- each of several shapes, as of a list
pub each_opened : (ss : List Shape) → shapes_of (map opened ss) ≡ opened_each (shapes_of ss)
each_opened [] = refl
each_opened (s ∷ ss) = ap (AndShape (opened s)) (each_opened ss)

-- a shape that shows the opened next one goes behind the others
pub pushed_opened : (done new front next : List code.Shape) (s item : code.Shape) → map view done ≡ map opened (map view front) → view s ≡ opened (view item) → next ≡ front ++ item ∷ [] → new ≡ done ++ s ∷ [] → map view new ≡ map opened (map view next)
pushed_opened done new front next s item so_far is more pushed =
    let here : (map view done ++ view s ∷ []) ≡ (map opened (map view front) ++ opened (view item) ∷ []) = rw (so_far, is) refl in
    ap (map view) pushed ∙ map-append view done (s ∷ []) ∙ here ∙ sym (ap (λ ss. map opened (map view ss)) more ∙ ap (map opened) (map-append view front (item ∷ [])) ∙ map-append opened (map view front) (view item ∷ []))

opened_by : (o : Ordering) (a b c : FieldShapes) → opened_fields (match_ordering o a b c) ≡ match_ordering o (opened_fields a) (opened_fields b) (opened_fields c)
opened_by Less a b c = refl
opened_by Equal a b c = refl
opened_by Greater a b c = refl

-- a mention at its place, opened
opened_put : (n : List ℕ) (needed : Bool) (s : Shape) (fs : FieldShapes) → put n needed (opened s) (opened_fields fs) ≡ opened_fields (put n needed s fs)
opened_put n needed s NoFieldShapes = refl
opened_put n needed s (AndFieldShape m other r shapes) =
    rw (opened_put n needed s shapes) (sym (opened_by (slice_cmp nat_cmp n m) (AndFieldShape n needed s (AndFieldShape m other r shapes)) (AndFieldShape m needed s shapes) (AndFieldShape m other r (put n needed s shapes))))

-- a field that shows the opened next one goes behind those before it
pub field_opened : (done : List Mention) (m : Mention) (more : List Mention) (opens : List Mention) (k : String Global) (f : Field) → IsStrictlySortedBy string_cmp (keys_of (done ++ m ∷ more)) → fields_view opens ≡ opened_fields (fields_view done) → string_bytes k ≡ string_bytes m.0 → f.needed ≡ m.1.needed → view f.shape ≡ opened (view m.1.shape) → fields_view (insert_entry string_cmp opens k f) ≡ opened_fields (fields_view (done ++ m ∷ []))
field_opened done m more opens k f sorted so_far named needed shape =
    let last : put (string_bytes m.0) m.1.needed (view m.1.shape) (fields_view done) ≡ fields_view (done ++ m ∷ []) = sym (put_shown done m.0 m.1) ∙ field_copied done m more done m.0 m.1 sorted refl refl refl refl in
    put_shown opens k f ∙ rw (named, needed, shape, so_far) (opened_put (string_bytes m.0) m.1.needed (view m.1.shape) (fields_view done)) ∙ ap opened_fields last
