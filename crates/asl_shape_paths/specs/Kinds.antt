-- What is known of the kinds of a shape of a table.
use Rattle.std.specs.Prelude.{◌≡◌, ◌<◌, List, length, IfSome}
use Rattle.asl_model.specs.Shape.{Shape, ArrayShape, ObjectShape}
use Rattle.asl_numbered.specs.declared.kinds.NodeArrays.{NodeArrays}
use Rattle.asl_numbered.specs.declared.kinds.NodeKinds.{NodeKinds}
use Rattle.asl_numbered.specs.declared.kinds.NodeObjects.{NodeObjects}
use Rattle.asl_numbered.specs.Expansion.{shape_at, shapes_at, fields_at, numbers_in, AreBelow}

-- the arrays' own number, of these arrays alone, and those of their elements are in the table
pub record AreArraysIn (table : List Shape) (arrays : NodeArrays) : Type 0 where
  pub within : arrays.number < length table
  pub alone : shape_at table arrays.number
      ≡ ArrayShape (shapes_at table arrays.first.now) (shape_at table arrays.rest)
  pub first : AreBelow (length table) arrays.first.now
  pub rest : arrays.rest < length table

-- the objects' own number, of these objects alone, and those of their fields are in the table
pub record AreObjectsIn (table : List Shape) (objects : NodeObjects) : Type 0 where
  pub within : objects.number < length table
  pub alone : shape_at table objects.number
      ≡ ObjectShape (fields_at table objects.fields.now.entries) objects.extra
  pub fields : AreBelow (length table) (numbers_in objects.fields.now.entries)

-- both are such
pub record AreKindsIn (table : List Shape) (kinds : NodeKinds) : Type 0 where
  pub arrays : IfSome kinds.arrays (AreArraysIn table)
  pub objects : IfSome kinds.objects (AreObjectsIn table)
