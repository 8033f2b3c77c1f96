-- How many levels the shapes have that grow, and those of a certificate that is made of them.
use Rattle.std.proofs.Common.{◌≤◌, ℕ, zero, suc, arith}
use Rattle.asl_model.specs.Shape.{Shape, Any, OfKinds, Arrays, WithoutArrays, ArraysOf, Objects, WithoutObjects, ObjectsOf, Shapes, NoShapes, AndShape, FieldShapes, NoFieldShapes, AndFieldShape}
use Rattle.asl_model.specs.ShapeOrder.{depth, depth_of_arrays, depth_of_objects, depth_of_elements, depth_of_fields}
use Rattle.asl_drafts.specs.Cutting.{cut, cut_to, cut_arrays_to, cut_objects_to, cut_elements_to, cut_fields_to, deepest, IsShallow}

-- ---- shapes

mutual
  -- a shape that is cut to so many levels
  cut_to_within : (levels : ℕ) (s : Shape) → depth (cut_to levels s) ≤ suc levels
  cut_to_within zero s = omega arith
  cut_to_within (suc levels) Any = omega arith
  cut_to_within (suc levels) (OfKinds simple arrays objects) = omega (arith, cut_arrays_within levels arrays, cut_objects_within levels objects)

  cut_arrays_within : (levels : ℕ) (arrays : Arrays) → depth_of_arrays (cut_arrays_to levels arrays) ≤ suc levels
  cut_arrays_within levels WithoutArrays = omega arith
  cut_arrays_within levels (ArraysOf first rest) = omega (arith, cut_elements_within levels first, cut_to_within levels rest)

  cut_objects_within : (levels : ℕ) (objects : Objects) → depth_of_objects (cut_objects_to levels objects) ≤ suc levels
  cut_objects_within levels WithoutObjects = omega arith
  cut_objects_within levels (ObjectsOf shapes extra) = cut_fields_within levels shapes

  cut_elements_within : (levels : ℕ) (first : Shapes) → depth_of_elements (cut_elements_to levels first) ≤ suc levels
  cut_elements_within levels NoShapes = omega arith
  cut_elements_within levels (AndShape s others) = omega (arith, cut_to_within levels s, cut_elements_within levels others)

  cut_fields_within : (levels : ℕ) (shapes : FieldShapes) → depth_of_fields (cut_fields_to levels shapes) ≤ suc levels
  cut_fields_within levels NoFieldShapes = omega arith
  cut_fields_within levels (AndFieldShape n needed s shapes) = omega (arith, cut_to_within levels s, cut_fields_within levels shapes)

pub cut_shallow : (s : Shape) → IsShallow (cut s)
cut_shallow s = cut_to_within deepest s

pub any_shallow : IsShallow Any
any_shallow = omega arith
