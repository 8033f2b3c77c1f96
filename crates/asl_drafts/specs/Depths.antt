-- How deep the shapes of a table are.
use Rattle.std.specs.Prelude.{◌≡◌, ◌≤◌, ℕ, List, length, min, Some, slice_get}
use Rattle.asl_model.specs.Shape.{Shape, Shapes, FieldShapes}
use Rattle.asl_model.specs.ShapeOrder.{depth, depth_of_elements, depth_of_fields}
use Rattle.asl_numbered.specs.Expansion.{shape_at}

-- what is told of a depth: 255 stands for all that are deeper
abbrev pub told : ℕ → ℕ
told depth = min depth 255

-- so for a shape, for the deepest of several, and for the deepest of fields
abbrev pub told_depth : Shape → ℕ
told_depth s = told (depth s)

abbrev pub told_depth_of_elements : Shapes → ℕ
told_depth_of_elements shapes = told (depth_of_elements shapes)

abbrev pub told_depth_of_fields : FieldShapes → ℕ
told_depth_of_fields shapes = told (depth_of_fields shapes)

-- the depths are those of the first shapes of the table
pub record AreDepths (table : List Shape) (depths : List ℕ) : Type 0 where
  pub within : length depths ≤ length table
  pub each : (n d : ℕ) → slice_get depths n ≡ Some d → d ≡ told_depth (shape_at table n)
