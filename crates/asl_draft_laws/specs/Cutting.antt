-- Shapes cut to a depth, so that a shape can't grow without end.
use Rattle.std.specs.Prelude.{ℕ, zero, suc}
use Rattle.asl_model.specs.Shape.{Shape, Any, OfKinds, Arrays, WithoutArrays, ArraysOf, Objects, WithoutObjects}
use Rattle.asl_model.specs.Shape.{ObjectsOf, Shapes, NoShapes, AndShape, FieldShapes, NoFieldShapes, AndFieldShape}

abbrev mutual
  -- the shape down to so many levels, the outermost counted: Any stands for each shape below them
  pub cut_to : ℕ → Shape → Shape
  cut_to zero s = Any
  cut_to (suc levels) Any = Any
  cut_to (suc levels) (OfKinds simple arrays objects) =
      OfKinds simple (cut_arrays_to levels arrays) (cut_objects_to levels objects)

  -- so for the shapes of an array's elements
  pub cut_arrays_to : ℕ → Arrays → Arrays
  cut_arrays_to levels WithoutArrays = WithoutArrays
  cut_arrays_to levels (ArraysOf first rest) = ArraysOf (cut_elements_to levels first) (cut_to levels rest)

  -- so for those of an object's fields
  pub cut_objects_to : ℕ → Objects → Objects
  cut_objects_to levels WithoutObjects = WithoutObjects
  cut_objects_to levels (ObjectsOf shapes extra) = ObjectsOf (cut_fields_to levels shapes) extra

  -- so for each of the shapes
  pub cut_elements_to : ℕ → Shapes → Shapes
  cut_elements_to levels NoShapes = NoShapes
  cut_elements_to levels (AndShape s others) = AndShape (cut_to levels s) (cut_elements_to levels others)

  -- so for the shape of each field
  pub cut_fields_to : ℕ → FieldShapes → FieldShapes
  cut_fields_to levels NoFieldShapes = NoFieldShapes
  cut_fields_to levels (AndFieldShape n needed s shapes) =
      AndFieldShape n needed (cut_to levels s) (cut_fields_to levels shapes)

-- how many levels a shape of a draft has at most
abbrev pub deepest : ℕ
deepest = 48

-- the shape, with Any for each shape below the deepest level
abbrev pub cut : Shape → Shape
cut s = cut_to deepest s
