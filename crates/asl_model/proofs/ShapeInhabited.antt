-- What `inhabited` tells: where it is false, no tree has the shape, so what a join keeps has all arrays and objects.
use Rattle.std.proofs.Common.{Bool, true, false, ◌&&◌, ◌||◌, not, Option, Some, None, refl, sym, ◌∙◌, ap, arith}
use Rattle.std.specs.Prelude.{IsTrue}
use Rattle.std.proofs.lemmas.Bool.{and_parts, and_from, false≢true}
use Rattle.asl_model.specs.Tree.{Tree, Null, Boolean, Integer, Text, Array, Object, Trees, NoTrees, AndTree, Fields, field_named}
use Rattle.asl_model.specs.Shape.{Shape, Any, OfKinds, Arrays, WithoutArrays, ArraysOf, Objects, WithoutObjects, ObjectsOf, Shapes, NoShapes, AndShape, FieldShapes, NoFieldShapes, AndFieldShape, Has, has, arrays_have, objects_have, elements_have, fields_have, there_and, all_mentioned, inhabited, some_array, some_object, all_inhabited, needed_inhabited}
use Rattle.asl_model.specs.ShapeOrder.{kept_arrays, kept_objects}

-- one more needed field whose shape is inhabited where the field is there
one_more_needed : (needed live others : Bool) (value : Option Tree) (test : Tree → Bool) → ((t : Tree) → IsTrue (test t) → IsTrue live) → IsTrue (there_and needed test value) → IsTrue others → IsTrue ((not needed || live) && others)
one_more_needed false live others value test tells there rest = rest
one_more_needed true live others None test tells there rest = absurd (false≢true there)
one_more_needed true live others (Some t) test tells there rest = and_from live others (tells t there) rest

mutual
  -- a shape that a tree has is inhabited
  pub has-inhabited : (s : Shape) (t : Tree) → Has s t → IsTrue (inhabited s)
  has-inhabited Any t h = refl
  has-inhabited (OfKinds simple arrays objects) Null h = grind arith
  has-inhabited (OfKinds simple arrays objects) (Boolean b) h = grind arith
  has-inhabited (OfKinds simple arrays objects) (Integer n) h = grind arith
  has-inhabited (OfKinds simple arrays objects) (Text s) h = grind arith
  has-inhabited (OfKinds simple arrays objects) (Array ts) h =
      let live : IsTrue (some_array arrays) = arrays_have-inhabited arrays ts h in
      grind arith
  has-inhabited (OfKinds simple arrays objects) (Object fs) h =
      let live : IsTrue (some_object objects) = objects_have-inhabited objects fs h in
      grind arith

  pub arrays_have-inhabited : (arrays : Arrays) (ts : Trees) → IsTrue (arrays_have arrays ts) → IsTrue (some_array arrays)
  arrays_have-inhabited WithoutArrays ts h = absurd (false≢true h)
  arrays_have-inhabited (ArraysOf first rest) ts h = elements_have-inhabited first (has rest) ts h

  pub objects_have-inhabited : (objects : Objects) (fs : Fields) → IsTrue (objects_have objects fs) → IsTrue (some_object objects)
  objects_have-inhabited WithoutObjects fs h = absurd (false≢true h)
  objects_have-inhabited (ObjectsOf shapes extra) fs h = fields_have-inhabited shapes fs (and_parts (fields_have shapes fs) (extra || all_mentioned shapes fs) h).0

  elements_have-inhabited : (first : Shapes) (further : Tree → Bool) (ts : Trees) → IsTrue (elements_have first further ts) → IsTrue (all_inhabited first)
  elements_have-inhabited NoShapes further ts h = refl
  elements_have-inhabited (AndShape s others) further NoTrees h = absurd (false≢true h)
  elements_have-inhabited (AndShape s others) further (AndTree t ts) h =
      let both = and_parts (has s t) (elements_have others further ts) h in
      and_from (inhabited s) (all_inhabited others) (has-inhabited s t both.0) (elements_have-inhabited others further ts both.1)

  fields_have-inhabited : (shapes : FieldShapes) (fs : Fields) → IsTrue (fields_have shapes fs) → IsTrue (needed_inhabited shapes)
  fields_have-inhabited NoFieldShapes fs h = refl
  fields_have-inhabited (AndFieldShape n needed s shapes) fs h =
      let both = and_parts (there_and needed (has s) (field_named n fs)) (fields_have shapes fs) h in
      one_more_needed needed (inhabited s) (needed_inhabited shapes) (field_named n fs) (has s) (λ t. has-inhabited s t) both.0 (fields_have-inhabited shapes fs both.1)

-- each array that is one of those is kept
pub arrays_have-kept : (arrays : Arrays) (ts : Trees) → IsTrue (arrays_have arrays ts) → IsTrue (arrays_have (kept_arrays arrays) ts)
arrays_have-kept arrays ts h = rw (arrays_have-inhabited arrays ts h) h

-- each object that is one of those is kept
pub objects_have-kept : (objects : Objects) (fs : Fields) → IsTrue (objects_have objects fs) → IsTrue (objects_have (kept_objects objects) fs)
objects_have-kept objects fs h = rw (objects_have-inhabited objects fs h) h

-- no tree has a shape that isn't inhabited
pub not_inhabited-has : (s : Shape) (t : Tree) → IsTrue (not (inhabited s)) → Has s t → ⊥
not_inhabited-has s t none h = let live = has-inhabited s t h in false≢true (ap not (sym live) ∙ none)

-- the same, shape by shape
pub no_tree : (s : Shape) → IsTrue (not (inhabited s)) → (t : Tree) → Has s t → ⊥
no_tree s none t h = not_inhabited-has s t none h
