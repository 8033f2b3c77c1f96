-- The shapes of the kinds that a test asks for.
use Rattle.std.specs.Prelude.{Bool}
use Rattle.asl_model.specs.Shape.{Shape, OfKinds, WithoutArrays, WithoutObjects, no_simple}
use Rattle.asl_model.specs.Test.{ValueKind, NullKind, NumericKind, StringKind, BooleanKind}

-- the shape of the trees of that kind, if there are any
abbrev pub kind_if : Bool → ValueKind → Shape
kind_if taken NullKind = OfKinds (record no_simple { null = taken }) WithoutArrays WithoutObjects
kind_if taken NumericKind = OfKinds (record no_simple { integer = taken }) WithoutArrays WithoutObjects
kind_if taken StringKind = OfKinds (record no_simple { text = taken }) WithoutArrays WithoutObjects
kind_if taken BooleanKind = OfKinds (record no_simple { boolean = taken }) WithoutArrays WithoutObjects
