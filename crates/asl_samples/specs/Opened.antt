-- Shapes in which objects may have other fields.
use Rattle.std.specs.Prelude.{true}
use Rattle.asl_model.specs.Shape.{Shape, Any, OfKinds, Arrays, WithoutArrays, ArraysOf, Objects, WithoutObjects, ObjectsOf}
use Rattle.asl_model.specs.Shape.{Shapes, NoShapes, AndShape, FieldShapes, NoFieldShapes, AndFieldShape}

abbrev mutual
  -- the shape, but that each object, at any depth, may have fields that aren't mentioned
  pub opened : Shape → Shape
  opened Any = Any
  opened (OfKinds simple arrays objects) = OfKinds simple (opened_arrays arrays) (opened_objects objects)

  -- so the shapes of elements
  pub opened_arrays : Arrays → Arrays
  opened_arrays WithoutArrays = WithoutArrays
  opened_arrays (ArraysOf first rest) = ArraysOf (opened_each first) (opened rest)

  -- these objects, with other fields
  pub opened_objects : Objects → Objects
  opened_objects WithoutObjects = WithoutObjects
  opened_objects (ObjectsOf shapes extra) = ObjectsOf (opened_fields shapes) true

  -- each of the shapes
  pub opened_each : Shapes → Shapes
  opened_each NoShapes = NoShapes
  opened_each (AndShape s others) = AndShape (opened s) (opened_each others)

  -- the shape of each field
  pub opened_fields : FieldShapes → FieldShapes
  opened_fields NoFieldShapes = NoFieldShapes
  opened_fields (AndFieldShape n needed s shapes) = AndFieldShape n needed (opened s) (opened_fields shapes)
