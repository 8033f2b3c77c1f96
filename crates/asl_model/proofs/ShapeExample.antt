-- The example of an inhabited shape whose names stand in order has the shape, and that of a proper shape is proper.
use Rattle.std.proofs.Common.{◌≡◌, ℕ, List, [], Bool, true, false, ◌||◌, not, Option, Some, None, refl, arith}
use Rattle.std.specs.Prelude.{IsTrue, bytes_eq, if◌then◌else◌, pos}
use Rattle.std.specs.Bool.{then_some}
use Rattle.std.proofs.lemmas.Bool.{and_parts, and_from, false≢true}
use Rattle.std.proofs.lemmas.Slice.Eq.{bytes_eq-Decides}
use Rattle.asl_model.specs.Tree.{Tree, Null, Boolean, Integer, Text, Array, Object, Trees, Fields, field_named, before_fields, IsProper, AreProper, HasProperFields}
use Rattle.asl_model.specs.Shape.{Simple, Shape, Any, OfKinds, Arrays, WithoutArrays, ArraysOf, Objects, WithoutObjects, ObjectsOf, Shapes, NoShapes, AndShape, FieldShapes, NoFieldShapes, AndFieldShape, Has, has, arrays_have, objects_have, elements_have, fields_have, there_and, mentions, all_mentioned, IsProperShape, AreProperArrays, AreProperObjects, AreProperShapes, AreProperFields, IsOrdered, AreOrderedArrays, AreOrderedObjects, AreOrderedShapes, AreOrderedFields, inhabited, some_array, some_object, all_inhabited, needed_inhabited}
use Rattle.asl_model.specs.ShapeOrder.{mention_of}
use Rattle.asl_model.specs.Examples.{example, array_example, object_example, examples, needed_examples}
use Rattle.asl_model.proofs.NamesInOrder.{BeforeAll, before_all, before-none, AreFirst, ordered-first}
use Rattle.asl_model.proofs.ShapeInside.{all_mentioned-from}

mutual
  -- the names of a proper shape stand in order
  pub proper-ordered : (s : Shape) → IsProperShape s → IsOrdered s
  proper-ordered Any proper = tt
  proper-ordered (OfKinds simple arrays objects) proper = (proper-ordered_arrays arrays proper.0, proper-ordered_objects objects proper.1)

  proper-ordered_arrays : (arrays : Arrays) → AreProperArrays arrays → AreOrderedArrays arrays
  proper-ordered_arrays WithoutArrays proper = tt
  proper-ordered_arrays (ArraysOf first rest) proper = (proper-ordered_shapes first proper.0, proper-ordered rest proper.1)

  proper-ordered_objects : (objects : Objects) → AreProperObjects objects → AreOrderedObjects objects
  proper-ordered_objects WithoutObjects proper = tt
  proper-ordered_objects (ObjectsOf shapes extra) proper = proper-ordered_fields shapes proper

  proper-ordered_shapes : (first : Shapes) → AreProperShapes first → AreOrderedShapes first
  proper-ordered_shapes NoShapes proper = tt
  proper-ordered_shapes (AndShape s others) proper = (proper-ordered s proper.0, proper-ordered_shapes others proper.1)

  proper-ordered_fields : (shapes : FieldShapes) → AreProperFields shapes → AreOrderedFields shapes
  proper-ordered_fields NoFieldShapes proper = tt
  proper-ordered_fields (AndFieldShape n needed s shapes) proper = (proper.1, proper-ordered s proper.2, proper-ordered_fields shapes proper.3)

-- what the example has of a field, by the mention of it
abbrev pub exampled : Option (Bool × Shape) → Option Tree
exampled None = None
exampled (Some mention) = then_some mention.0 (example mention.1)

-- each field of the example is there as its mention says
pub example-field : (n : List ℕ) (shapes : FieldShapes) → AreOrderedFields shapes → field_named n (needed_examples shapes) ≡ exampled (mention_of n shapes)
example-field n NoFieldShapes ordered = refl
example-field n (AndFieldShape m needed s shapes) ordered = go needed (bytes_eq m n) refl (example-field n shapes ordered.2)
  where
    go : (needed' same : Bool) → bytes_eq m n ≡ same → field_named n (needed_examples shapes) ≡ exampled (mention_of n shapes) → field_named n (needed_examples (AndFieldShape m needed' s shapes)) ≡ exampled (mention_of n (AndFieldShape m needed' s shapes))
    go true true same below = rw same refl
    go true false other below = rw other below
    go false true same below =
        let is : m ≡ n = (bytes_eq-Decides m n).0 same in
        let none : mention_of n shapes ≡ None = rw (← is) (before-none m shapes (before_all m shapes ordered.0 ordered.2)) in
        rw same (rw none at below)
    go false false other below = rw other below

-- each field of the example is mentioned
pub example-mentioned : (shapes : FieldShapes) → IsTrue (all_mentioned shapes (needed_examples shapes))
example-mentioned shapes = all_mentioned-from shapes (needed_examples shapes) (λ n t e. needed_mentioned n t shapes e)
  where
    needed_mentioned : (n : List ℕ) (t : Tree) (shapes : FieldShapes) → field_named n (needed_examples shapes) ≡ Some t → IsTrue (mentions n shapes)
    needed_mentioned n t NoFieldShapes e = absurd (cc)
    needed_mentioned n t (AndFieldShape m needed s shapes) e = go needed (bytes_eq m n) refl e (needed_mentioned n t shapes)
      where
        go : (needed' b : Bool) → bytes_eq m n ≡ b → field_named n (needed_examples (AndFieldShape m needed' s shapes)) ≡ Some t → (field_named n (needed_examples shapes) ≡ Some t → IsTrue (mentions n shapes)) → IsTrue (bytes_eq m n || mentions n shapes)
        go needed' true same e' below = rw same refl
        go true false other e' below = rw other (below (rw other at e'))
        go false false other e' below = rw other (below e')

-- the first tree that is taken is proper where the array and the object are
taken-proper : (x b i n y : Bool) (array object : Tree) → IsProper array → IsProper object → IsProper (if x then array else (if b then Boolean false else (if i then Integer (pos 0) else (if n then Null else (if y then object else Text [])))))
taken-proper true b i n y array object a o = a
taken-proper false true i n y array object a o = tt
taken-proper false false true n y array object a o = tt
taken-proper false false false true y array object a o = tt
taken-proper false false false false true array object a o = o
taken-proper false false false false false array object a o = ([], (refl, refl))

-- the first tree that is taken has the shape where the array and the object do
taken-has : (simple : Simple) (arrays : Arrays) (objects : Objects) (ts : Trees) (fs : Fields) → (IsTrue (some_array arrays) → IsTrue (arrays_have arrays ts)) → (IsTrue (some_object objects) → IsTrue (objects_have objects fs)) → IsTrue (inhabited (OfKinds simple arrays objects)) → Has (OfKinds simple arrays objects) (if some_array arrays then Array ts else (if simple.boolean then Boolean false else (if simple.integer then Integer (pos 0) else (if simple.null then Null else (if some_object objects then Object fs else Text [])))))
taken-has simple arrays objects ts fs a o h = go (some_array arrays) refl simple.boolean refl simple.integer refl simple.null refl (some_object objects) refl
  where
    go : (x : Bool) → some_array arrays ≡ x → (b : Bool) → simple.boolean ≡ b → (i : Bool) → simple.integer ≡ i → (n : Bool) → simple.null ≡ n → (y : Bool) → some_object objects ≡ y → Has (OfKinds simple arrays objects) (if x then Array ts else (if b then Boolean false else (if i then Integer (pos 0) else (if n then Null else (if y then Object fs else Text [])))))
    go true ex b eb i ei n en y ey = a ex
    go false ex true eb i ei n en y ey = eb
    go false ex false eb true ei n en y ey = ei
    go false ex false eb false ei true en y ey = en
    go false ex false eb false ei false en true ey = o ey
    go false ex false eb false ei false en false ey = grind arith

-- a mention holds of its field in the example
held : (needed : Bool) (s : Shape) → (IsTrue (inhabited s) → Has s (example s)) → IsTrue (not needed || inhabited s) → IsTrue (there_and needed (has s) (then_some needed (example s)))
held true s live h = live h
held false s live h = refl

mutual
  -- the example of an inhabited shape has it
  pub example-has : (s : Shape) → IsOrdered s → IsTrue (inhabited s) → Has s (example s)
  example-has Any ordered h = refl
  example-has (OfKinds simple arrays objects) ordered h = taken-has simple arrays objects (array_example arrays) (object_example objects) (array-has arrays ordered.0) (example-object_has objects ordered.1) h

  array-has : (arrays : Arrays) → AreOrderedArrays arrays → IsTrue (some_array arrays) → IsTrue (arrays_have arrays (array_example arrays))
  array-has WithoutArrays ordered h = absurd (false≢true h)
  array-has (ArraysOf first rest) ordered h = examples-have first (has rest) ordered.0 h

  pub example-object_has : (objects : Objects) → AreOrderedObjects objects → IsTrue (some_object objects) → IsTrue (objects_have objects (object_example objects))
  example-object_has WithoutObjects ordered h = absurd (false≢true h)
  example-object_has (ObjectsOf shapes extra) ordered h = and_from (fields_have shapes (needed_examples shapes)) (extra || all_mentioned shapes (needed_examples shapes)) (needed-have shapes shapes ordered (ordered-first shapes ordered) ordered h) (closed extra)
    where
      closed : (more : Bool) → IsTrue (more || all_mentioned shapes (needed_examples shapes))
      closed true = refl
      closed false = example-mentioned shapes

  pub examples-have : (first : Shapes) (further : Tree → Bool) → AreOrderedShapes first → IsTrue (all_inhabited first) → IsTrue (elements_have first further (examples first))
  examples-have NoShapes further ordered h = refl
  examples-have (AndShape s others) further ordered h =
      let both = and_parts (inhabited s) (all_inhabited others) h in
      and_from (has s (example s)) (elements_have others further (examples others)) (example-has s ordered.0 both.0) (examples-have others further ordered.1 both.1)

  pub needed-have : (whole shapes : FieldShapes) → AreOrderedFields whole → AreFirst whole shapes → AreOrderedFields shapes → IsTrue (needed_inhabited shapes) → IsTrue (fields_have shapes (needed_examples whole))
  needed-have whole NoFieldShapes all first ordered h = refl
  needed-have whole (AndFieldShape n needed s shapes) all first ordered h =
      let both = and_parts (not needed || inhabited s) (needed_inhabited shapes) h in
      let here : IsTrue (there_and needed (has s) (field_named n (needed_examples whole))) = rw (example-field n whole all, first.0) (held needed s (example-has s ordered.1) both.0) in
      and_from (there_and needed (has s) (field_named n (needed_examples whole))) (fields_have shapes (needed_examples whole)) here (needed-have whole shapes all first.1 ordered.2 both.1)

-- a name before all mentions is before the fields of the example
before_needed : (n : List ℕ) (shapes : FieldShapes) → BeforeAll n shapes → IsTrue (before_fields n (needed_examples shapes))
before_needed n NoFieldShapes h = refl
before_needed n (AndFieldShape m true s shapes) h = h.0
before_needed n (AndFieldShape m false s shapes) h = before_needed n shapes h.1

mutual
  -- the example of a proper shape is proper
  pub example-proper : (s : Shape) → IsProperShape s → IsProper (example s)
  example-proper Any proper = tt
  example-proper (OfKinds simple arrays objects) proper = taken-proper (some_array arrays) simple.boolean simple.integer simple.null (some_object objects) (Array (array_example arrays)) (Object (object_example objects)) (array-proper arrays proper.0) (object-proper objects proper.1)

  array-proper : (arrays : Arrays) → AreProperArrays arrays → AreProper (array_example arrays)
  array-proper WithoutArrays proper = tt
  array-proper (ArraysOf first rest) proper = examples-proper first proper.0

  object-proper : (objects : Objects) → AreProperObjects objects → HasProperFields (object_example objects)
  object-proper WithoutObjects proper = tt
  object-proper (ObjectsOf shapes extra) proper = needed-proper shapes proper

  examples-proper : (first : Shapes) → AreProperShapes first → AreProper (examples first)
  examples-proper NoShapes proper = tt
  examples-proper (AndShape s others) proper = (example-proper s proper.0, examples-proper others proper.1)

  needed-proper : (shapes : FieldShapes) → AreProperFields shapes → HasProperFields (needed_examples shapes)
  needed-proper NoFieldShapes proper = tt
  needed-proper (AndFieldShape n true s shapes) proper = (proper.0, before_needed n shapes (before_all n shapes proper.1 (proper-ordered_fields shapes proper.3)), example-proper s proper.2, needed-proper shapes proper.3)
  needed-proper (AndFieldShape n false s shapes) proper = needed-proper shapes proper.3

-- a proper shape that is inhabited has a proper tree
pub inhabited-some : (s : Shape) → IsProperShape s → IsTrue (inhabited s) → (t : Tree) × IsProper t × Has s t
inhabited-some s proper h = (example s, example-proper s proper, example-has s (proper-ordered s proper) h)
