-- A shape with one of its parts changed.
use Rattle.std.specs.Prelude.{◌≡◌, ◌<◌, ℕ, List, true}
use Rattle.asl_model.specs.Shape.{Shape, ArrayShape, ObjectShape, Arrays, WithoutArrays, ArraysOf, Objects, WithoutObjects, ObjectsOf, AreProperFields}
use Rattle.asl_model.specs.ShapeFlow.{set_place}
use Rattle.asl_model.specs.ShapeOrder.{set_mention}
use Rattle.asl_numbered.specs.declared.node.NodeField.{NodeField}
use Rattle.asl_numbered.specs.TakenApart.{arrays_of, objects_of}
use Rattle.asl_numbered.specs.Expansion.{shape_at, shapes_at, fields_at, numbers_in, AreBelow}
use Rattle.asl_numbered.specs.Names.{Name}

-- these objects with a needed field of that name and shape; where there are none, the last shape
abbrev pub objects_with : List ℕ → Shape → Objects → Shape → Shape
objects_with n w WithoutObjects s = s
objects_with n w (ObjectsOf shapes extra) s = ObjectShape (set_mention n true w shapes) extra

-- the objects of a shape, with a needed field of that name and shape; a shape without objects as it is
abbrev pub with_field : List ℕ → Shape → Shape → Shape
with_field n w s = objects_with n w (objects_of s) s

-- these arrays with that shape at a position among the first; where there are none, the last shape
abbrev pub arrays_with : ℕ → Shape → Arrays → Shape → Shape
arrays_with i w WithoutArrays s = s
arrays_with i w (ArraysOf first rest) s = ArrayShape (set_place i w first) rest

-- the arrays of a shape, with that shape at a position among the first; a shape without arrays as it is
abbrev pub with_place : ℕ → Shape → Shape → Shape
with_place i w s = arrays_with i w (arrays_of s) s

-- the new fields are the old ones with a needed one of that name and number, over each table in which their names ascend
pub record AreWithField (n : List ℕ) (number : ℕ) (old new : List (Name × NodeField)) : Type 0 where
  pub shapes : (table : List Shape) → AreProperFields (fields_at table old)
      → fields_at table new ≡ set_mention n true (shape_at table number) (fields_at table old)
  pub below : (bound : ℕ) → number < bound → AreBelow bound (numbers_in old) → AreBelow bound (numbers_in new)

-- the new places are the old ones with that number at a position, over each table
pub record AreWithPlace (i number : ℕ) (old new : List ℕ) : Type 0 where
  pub shapes : (table : List Shape) → shapes_at table new ≡ set_place i (shape_at table number) (shapes_at table old)
  pub below : (bound : ℕ) → number < bound → AreBelow bound old → AreBelow bound new
