-- A code for shapes: the value of a table is a list of them, and the logic stores a value as a tree of numbers, from which
-- it must be told apart from every other. No contract cites this module.
use Rattle.std.specs.Prelude.{◌≡◌, ℕ, zero, suc, List, [], ◌∷◌, Bool, true, false, refl}
use Rattle.std.specs.Coded.{Coded, code_by}
use base.Stored.{Gv, gnil, gnum, gcons}
use denote.Struct.Codes.{itself}
use Rattle.asl_model.specs.Shape.{Shape, Any, OfKinds, Simple, Arrays, WithoutArrays, ArraysOf, Objects, WithoutObjects, ObjectsOf, Shapes, NoShapes, AndShape, FieldShapes, NoFieldShapes, AndFieldShape, no_simple}

-- a truth value is stored as 0 or 1
abbrev truth_code : Bool → Gv
truth_code false = gnum 0
truth_code true = gnum 1

abbrev truth_back : Gv → Bool
truth_back (gnum (suc n)) = true
truth_back (gnum zero) = false
truth_back gnil = false
truth_back (gcons a b) = false

-- a name as the list of its bytes
abbrev name_code : List ℕ → Gv
name_code [] = gnil
name_code (n ∷ ns) = gcons (gnum n) (name_code ns)

abbrev name_back : Gv → List ℕ
name_back (gcons (gnum n) ns) = n ∷ name_back ns
name_back (gcons gnil ns) = []
name_back (gcons (gcons a b) ns) = []
name_back gnil = []
name_back (gnum n) = []

-- the simple kinds as their truth values
abbrev simple_code : Simple → Gv
simple_code s = gcons (truth_code s.null) (gcons (truth_code s.boolean) (gcons (truth_code s.integer) (truth_code s.text)))

abbrev simple_back : Gv → Simple
simple_back (gcons null (gcons boolean (gcons integer text))) =
    record { null = truth_back null; boolean = truth_back boolean; integer = truth_back integer; text = truth_back text }
simple_back gnil = no_simple
simple_back (gnum n) = no_simple
simple_back (gcons null gnil) = no_simple
simple_back (gcons null (gnum n)) = no_simple
simple_back (gcons null (gcons boolean gnil)) = no_simple
simple_back (gcons null (gcons boolean (gnum n))) = no_simple

-- Any as the empty tree, and each other shape as the trees of its parts
abbrev mutual
  shape_code : Shape → Gv
  shape_code Any = gnil
  shape_code (OfKinds simple arrays objects) = gcons (simple_code simple) (gcons (arrays_code arrays) (objects_code objects))

  arrays_code : Arrays → Gv
  arrays_code WithoutArrays = gnil
  arrays_code (ArraysOf first rest) = gcons (shapes_code first) (shape_code rest)

  objects_code : Objects → Gv
  objects_code WithoutObjects = gnil
  objects_code (ObjectsOf fields extra) = gcons (fields_code fields) (truth_code extra)

  shapes_code : Shapes → Gv
  shapes_code NoShapes = gnil
  shapes_code (AndShape s rest) = gcons (shape_code s) (shapes_code rest)

  fields_code : FieldShapes → Gv
  fields_code NoFieldShapes = gnil
  fields_code (AndFieldShape name needed s rest) =
      gcons (gcons (name_code name) (truth_code needed)) (gcons (shape_code s) (fields_code rest))

-- a shape again from such a tree
abbrev mutual
  shape_back : Gv → Shape
  shape_back (gcons simple (gcons arrays objects)) = OfKinds (simple_back simple) (arrays_back arrays) (objects_back objects)
  shape_back gnil = Any
  shape_back (gnum n) = Any
  shape_back (gcons simple gnil) = Any
  shape_back (gcons simple (gnum n)) = Any

  arrays_back : Gv → Arrays
  arrays_back (gcons first rest) = ArraysOf (shapes_back first) (shape_back rest)
  arrays_back gnil = WithoutArrays
  arrays_back (gnum n) = WithoutArrays

  objects_back : Gv → Objects
  objects_back (gcons fields extra) = ObjectsOf (fields_back fields) (truth_back extra)
  objects_back gnil = WithoutObjects
  objects_back (gnum n) = WithoutObjects

  shapes_back : Gv → Shapes
  shapes_back (gcons s rest) = AndShape (shape_back s) (shapes_back rest)
  shapes_back gnil = NoShapes
  shapes_back (gnum n) = NoShapes

  fields_back : Gv → FieldShapes
  fields_back (gcons (gcons name needed) (gcons s rest)) =
      AndFieldShape (name_back name) (truth_back needed) (shape_back s) (fields_back rest)
  fields_back gnil = NoFieldShapes
  fields_back (gnum n) = NoFieldShapes
  fields_back (gcons gnil rest) = NoFieldShapes
  fields_back (gcons (gnum n) rest) = NoFieldShapes
  fields_back (gcons (gcons name needed) gnil) = NoFieldShapes
  fields_back (gcons (gcons name needed) (gnum n)) = NoFieldShapes

-- ---- each comes back

truth_is_back : (b : Bool) → truth_back (truth_code b) ≡ b
truth_is_back false = refl
truth_is_back true = refl

name_is_back : (ns : List ℕ) → name_back (name_code ns) ≡ ns
name_is_back [] = refl
name_is_back (n ∷ ns) = rw (name_is_back ns) refl

simple_is_back : (s : Simple) → simple_back (simple_code s) ≡ s
simple_is_back s = rw (truth_is_back s.null, truth_is_back s.boolean, truth_is_back s.integer, truth_is_back s.text) refl

mutual
  pub shape_is_back : (s : Shape) → shape_back (shape_code s) ≡ s
  shape_is_back Any = refl
  shape_is_back (OfKinds simple arrays objects) =
      rw (simple_is_back simple, arrays_are_back arrays, objects_are_back objects) refl

  arrays_are_back : (a : Arrays) → arrays_back (arrays_code a) ≡ a
  arrays_are_back WithoutArrays = refl
  arrays_are_back (ArraysOf first rest) = rw (shapes_are_back first, shape_is_back rest) refl

  objects_are_back : (o : Objects) → objects_back (objects_code o) ≡ o
  objects_are_back WithoutObjects = refl
  objects_are_back (ObjectsOf fields extra) = rw (fields_are_back fields, truth_is_back extra) refl

  shapes_are_back : (ss : Shapes) → shapes_back (shapes_code ss) ≡ ss
  shapes_are_back NoShapes = refl
  shapes_are_back (AndShape s rest) = rw (shape_is_back s, shapes_are_back rest) refl

  fields_are_back : (fs : FieldShapes) → fields_back (fields_code fs) ≡ fs
  fields_are_back NoFieldShapes = refl
  fields_are_back (AndFieldShape name needed s rest) =
      rw (name_is_back name, truth_is_back needed, shape_is_back s, fields_are_back rest) refl

-- shapes are stored so
abbrev pub coded_shape : Coded Shape
coded_shape = code_by Gv itself shape_code shape_back shape_is_back
