-- An inhabited shape has a proper tree where the names are in order as far as `inhabited` looks: the rest of the
-- shape may be replaced by Never.
use Rattle.std.proofs.Common.{◌≡◌, ℕ, List, Bool, true, false, ◌&&◌, ◌||◌, not, Option, Some, None, refl, sym, ◌∙◌, ap, bytes_eq}
use Rattle.std.specs.Prelude.{IsTrue, if◌then◌else◌}
use Rattle.std.proofs.lemmas.Bool.{and_parts, and_from, false≢true}
use Rattle.asl_model.specs.Tree.{Tree, Null, Boolean, Integer, Text, Array, Object, Trees, NoTrees, AndTree, Fields, NoFields, AndField, field_named, IsProper}
use Rattle.asl_model.specs.Shape.{Shape, Any, OfKinds, Never, Arrays, WithoutArrays, ArraysOf, Objects, WithoutObjects, ObjectsOf, Shapes, NoShapes, AndShape, FieldShapes, NoFieldShapes, AndFieldShape, Has, has, arrays_have, objects_have, elements_have, each_element, fields_have, there_and, mentions, all_mentioned, before_mentions, IsProperShape, AreProperArrays, AreProperObjects, AreProperShapes, AreProperFields, inhabited, some_simple, some_array, some_object, all_inhabited, needed_inhabited}
use Rattle.asl_model.proofs.ShapeInhabited.{no_tree}
use Rattle.asl_shape.specs.Known.{unless_first, AreInOrder, IsOrderly, AreOrderlyArrays, AreOrderlyObjects, AreOrderly, AreNeededOrderly}

-- the arrays, unless there are trees of simple kinds; the objects, unless there are arrays either
abbrev arrays_looked_at : Bool → Bool → Arrays → Arrays
arrays_looked_at true array arrays = WithoutArrays
arrays_looked_at false true arrays = arrays
arrays_looked_at false false arrays = WithoutArrays

abbrev objects_looked_at : Bool → Bool → Objects → Objects
objects_looked_at true array objects = WithoutObjects
objects_looked_at false true objects = WithoutObjects
objects_looked_at false false objects = objects

abbrev mutual
  -- the first kind that is looked at and has trees, with Never for further elements and for each field that isn't needed
  pruned : Shape → Shape
  pruned Any = Any
  pruned (OfKinds simple arrays objects) =
      OfKinds simple (arrays_looked_at (some_simple simple) (some_array arrays) (arrays_pruned arrays))
      (objects_looked_at (some_simple simple) (some_array arrays) (objects_pruned objects))

  arrays_pruned : Arrays → Arrays
  arrays_pruned WithoutArrays = WithoutArrays
  arrays_pruned (ArraysOf first rest) = ArraysOf (all_pruned first) Never

  objects_pruned : Objects → Objects
  objects_pruned WithoutObjects = WithoutObjects
  objects_pruned (ObjectsOf shapes extra) = ObjectsOf (fields_pruned shapes) extra

  all_pruned : Shapes → Shapes
  all_pruned NoShapes = NoShapes
  all_pruned (AndShape s others) = AndShape (pruned s) (all_pruned others)

  fields_pruned : FieldShapes → FieldShapes
  fields_pruned NoFieldShapes = NoFieldShapes
  fields_pruned (AndFieldShape n needed s shapes) = AndFieldShape n needed (if needed then pruned s else Never) (fields_pruned shapes)

before_pruned : (n : List ℕ) (shapes : FieldShapes) → IsTrue (before_mentions n shapes) → IsTrue (before_mentions n (fields_pruned shapes))
before_pruned n NoFieldShapes h = h
before_pruned n (AndFieldShape m needed s shapes) h = h

one_proper : (needed : Bool) (s : Shape) → (IsTrue needed → IsProperShape s) → IsProperShape (if needed then s else Never)
one_proper true s h = h refl
one_proper false s h = (tt, tt)

looked_at_proper : (simple array : Bool) (arrays : Arrays) (objects : Objects) (a o : Type 0) → (a → AreProperArrays arrays) → (o → AreProperObjects objects) → unless_first simple array a o → AreProperArrays (arrays_looked_at simple array arrays) × AreProperObjects (objects_looked_at simple array objects)
looked_at_proper true array arrays objects a o f g h = (tt, tt)
looked_at_proper false true arrays objects a o f g h = (f h, tt)
looked_at_proper false false arrays objects a o f g h = (tt, g h)

mutual
  pruned_proper : (s : Shape) → IsOrderly s → IsProperShape (pruned s)
  pruned_proper Any h = tt
  pruned_proper (OfKinds simple arrays objects) h =
      looked_at_proper (some_simple simple) (some_array arrays) _ _ (AreOrderlyArrays arrays) (AreOrderlyObjects objects) (arrays_pruned_proper arrays) (objects_pruned_proper objects) h

  arrays_pruned_proper : (arrays : Arrays) → AreOrderlyArrays arrays → AreProperArrays (arrays_pruned arrays)
  arrays_pruned_proper WithoutArrays h = tt
  arrays_pruned_proper (ArraysOf first rest) h = (all_pruned_proper first h, (tt, tt))

  objects_pruned_proper : (objects : Objects) → AreOrderlyObjects objects → AreProperObjects (objects_pruned objects)
  objects_pruned_proper WithoutObjects h = tt
  objects_pruned_proper (ObjectsOf shapes extra) h = fields_pruned_proper shapes h.0 h.1

  all_pruned_proper : (ss : Shapes) → AreOrderly ss → AreProperShapes (all_pruned ss)
  all_pruned_proper NoShapes h = tt
  all_pruned_proper (AndShape s others) h = (pruned_proper s h.0, all_pruned_proper others h.1)

  fields_pruned_proper : (shapes : FieldShapes) → AreInOrder shapes → AreNeededOrderly shapes → AreProperFields (fields_pruned shapes)
  fields_pruned_proper NoFieldShapes order h = tt
  fields_pruned_proper (AndFieldShape n needed s shapes) order h =
      (order.0, before_pruned n shapes order.1, one_proper needed (pruned s) (λ yes. pruned_proper s (h.0 yes)), fields_pruned_proper shapes order.2 h.1)

one_inhabited : (needed live now others further : Bool) → (IsTrue live → IsTrue now) → (IsTrue others → IsTrue further) → (s : Shape) → inhabited s ≡ now → IsTrue ((not needed || live) && others) → IsTrue ((not needed || inhabited (if needed then s else Never)) && further)
one_inhabited true live now others further f g s e h =
    let both = and_parts live others h in
    and_from (inhabited s) further (e ∙ f both.0) (g both.1)
one_inhabited false live now others further f g s e h = g h

looked_at_inhabited : (simple array : Bool) (arrays : Arrays) (objects : Objects) (object : Bool) → (IsTrue array → IsTrue (some_array arrays)) → (IsTrue object → IsTrue (some_object objects)) → IsTrue (simple || (array || object)) → IsTrue (simple || (some_array (arrays_looked_at simple array arrays) || some_object (objects_looked_at simple array objects)))
looked_at_inhabited true array arrays objects object f g h = refl
looked_at_inhabited false true arrays objects object f g h = rw (f refl) refl
looked_at_inhabited false false arrays objects object f g h = g h

mutual
  pruned_inhabited : (s : Shape) → IsTrue (inhabited s) → IsTrue (inhabited (pruned s))
  pruned_inhabited Any h = h
  pruned_inhabited (OfKinds simple arrays objects) h = looked_at_inhabited (some_simple simple) (some_array arrays) (arrays_pruned arrays) (objects_pruned objects) (some_object objects) (arrays_pruned_inhabited arrays) (objects_pruned_inhabited objects) h

  arrays_pruned_inhabited : (arrays : Arrays) → IsTrue (some_array arrays) → IsTrue (some_array (arrays_pruned arrays))
  arrays_pruned_inhabited WithoutArrays h = h
  arrays_pruned_inhabited (ArraysOf first rest) h = all_pruned_inhabited first h

  objects_pruned_inhabited : (objects : Objects) → IsTrue (some_object objects) → IsTrue (some_object (objects_pruned objects))
  objects_pruned_inhabited WithoutObjects h = h
  objects_pruned_inhabited (ObjectsOf shapes extra) h = fields_pruned_inhabited shapes h

  all_pruned_inhabited : (ss : Shapes) → IsTrue (all_inhabited ss) → IsTrue (all_inhabited (all_pruned ss))
  all_pruned_inhabited NoShapes h = h
  all_pruned_inhabited (AndShape s others) h =
      let both = and_parts (inhabited s) (all_inhabited others) h in
      and_from (inhabited (pruned s)) (all_inhabited (all_pruned others)) (pruned_inhabited s both.0) (all_pruned_inhabited others both.1)

  fields_pruned_inhabited : (shapes : FieldShapes) → IsTrue (needed_inhabited shapes) → IsTrue (needed_inhabited (fields_pruned shapes))
  fields_pruned_inhabited NoFieldShapes h = h
  fields_pruned_inhabited (AndFieldShape n needed s shapes) h =
      one_inhabited needed (inhabited s) (inhabited (pruned s)) (needed_inhabited shapes) (needed_inhabited (fields_pruned shapes)) (pruned_inhabited s) (fields_pruned_inhabited shapes) (pruned s) refl h

mentions_pruned : (n : List ℕ) (shapes : FieldShapes) → mentions n (fields_pruned shapes) ≡ mentions n shapes
mentions_pruned n NoFieldShapes = refl
mentions_pruned n (AndFieldShape m needed s shapes) = ap (λ b. bytes_eq m n || b) (mentions_pruned n shapes)

all_mentioned_pruned : (shapes : FieldShapes) (fs : Fields) → all_mentioned (fields_pruned shapes) fs ≡ all_mentioned shapes fs
all_mentioned_pruned shapes NoFields = refl
all_mentioned_pruned shapes (AndField n t fs) = rw (mentions_pruned n shapes, all_mentioned_pruned shapes fs) refl

one_there : (needed : Bool) (p s : Shape) (value : Option Tree) → ((t : Tree) → Has p t → Has s t) → IsTrue (there_and needed (has (if needed then p else Never)) value) → IsTrue (there_and needed (has s) value)
one_there true p s None f h = h
one_there true p s (Some t) f h = f t h
one_there false p s None f h = h
one_there false p s (Some t) f h = absurd (no_tree Never refl t h)

none_further : (further : Tree → Bool) (ts : Trees) → IsTrue (each_element (has Never) ts) → IsTrue (each_element further ts)
none_further further NoTrees h = refl
none_further further (AndTree t ts) h = absurd (no_tree Never refl t (and_parts (has Never t) (each_element (has Never) ts) h).0)

arrays_looked_at_have : (simple array : Bool) (arrays : Arrays) (ts : Trees) → IsTrue (arrays_have (arrays_looked_at simple array arrays) ts) → IsTrue (arrays_have arrays ts)
arrays_looked_at_have true array arrays ts h = absurd (false≢true h)
arrays_looked_at_have false true arrays ts h = h
arrays_looked_at_have false false arrays ts h = absurd (false≢true h)

objects_looked_at_have : (simple array : Bool) (objects : Objects) (fs : Fields) → IsTrue (objects_have (objects_looked_at simple array objects) fs) → IsTrue (objects_have objects fs)
objects_looked_at_have true array objects fs h = absurd (false≢true h)
objects_looked_at_have false true objects fs h = absurd (false≢true h)
objects_looked_at_have false false objects fs h = h

mutual
  pruned_has : (s : Shape) (t : Tree) → Has (pruned s) t → Has s t
  pruned_has Any t h = h
  pruned_has (OfKinds simple arrays objects) Null h = h
  pruned_has (OfKinds simple arrays objects) (Boolean b) h = h
  pruned_has (OfKinds simple arrays objects) (Integer n) h = h
  pruned_has (OfKinds simple arrays objects) (Text s) h = h
  pruned_has (OfKinds simple arrays objects) (Array ts) h =
      arrays_pruned_have arrays ts (arrays_looked_at_have (some_simple simple) (some_array arrays) (arrays_pruned arrays) ts h)
  pruned_has (OfKinds simple arrays objects) (Object fs) h =
      objects_pruned_have objects fs (objects_looked_at_have (some_simple simple) (some_array arrays) (objects_pruned objects) fs h)

  arrays_pruned_have : (arrays : Arrays) (ts : Trees) → IsTrue (arrays_have (arrays_pruned arrays) ts) → IsTrue (arrays_have arrays ts)
  arrays_pruned_have WithoutArrays ts h = h
  arrays_pruned_have (ArraysOf first rest) ts h = all_pruned_have first (has rest) ts h

  objects_pruned_have : (objects : Objects) (fs : Fields) → IsTrue (objects_have (objects_pruned objects) fs) → IsTrue (objects_have objects fs)
  objects_pruned_have WithoutObjects fs h = h
  objects_pruned_have (ObjectsOf shapes extra) fs h =
      let both = and_parts (fields_have (fields_pruned shapes) fs) (extra || all_mentioned (fields_pruned shapes) fs) h in
      and_from (fields_have shapes fs) (extra || all_mentioned shapes fs) (fields_pruned_have shapes fs both.0) (ap (λ b. extra || b) (sym (all_mentioned_pruned shapes fs)) ∙ both.1)

  all_pruned_have : (ss : Shapes) (further : Tree → Bool) (ts : Trees) → IsTrue (elements_have (all_pruned ss) (has Never) ts) → IsTrue (elements_have ss further ts)
  all_pruned_have NoShapes further ts h = none_further further ts h
  all_pruned_have (AndShape s others) further NoTrees h = h
  all_pruned_have (AndShape s others) further (AndTree t ts) h =
      let both = and_parts (has (pruned s) t) (elements_have (all_pruned others) (has Never) ts) h in
      and_from (has s t) (elements_have others further ts) (pruned_has s t both.0) (all_pruned_have others further ts both.1)

  fields_pruned_have : (shapes : FieldShapes) (fs : Fields) → IsTrue (fields_have (fields_pruned shapes) fs) → IsTrue (fields_have shapes fs)
  fields_pruned_have NoFieldShapes fs h = h
  fields_pruned_have (AndFieldShape n needed s shapes) fs h =
      let both = and_parts (there_and needed (has (if needed then pruned s else Never)) (field_named n fs)) (fields_have (fields_pruned shapes) fs) h in
      and_from (there_and needed (has s) (field_named n fs)) (fields_have shapes fs) (one_there needed (pruned s) s (field_named n fs) (λ t. pruned_has s t) both.0) (fields_pruned_have shapes fs both.1)

pub proper_tree : (law : (s : Shape) → IsProperShape s → IsTrue (inhabited s) → (t : Tree) × IsProper t × Has s t) → (s : Shape) → IsOrderly s → IsTrue (inhabited s) → (t : Tree) × IsProper t × Has s t
proper_tree law s orderly live =
    let found = law (pruned s) (pruned_proper s orderly) (pruned_inhabited s live) in
    (found.0, found.1, pruned_has s found.0 found.2)
