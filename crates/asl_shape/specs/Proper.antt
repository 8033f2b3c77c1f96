-- Proper shapes and fields, as records.
use Rattle.asl_model.specs.Shape.{Shape, Arrays, Objects, Shapes, FieldShapes, IsProperShape, AreProperArrays, AreProperObjects, AreProperShapes, AreProperFields}

pub record Proper (s : Shape) : Type 0 where
  pub proper : IsProperShape s

pub record ProperArrays (arrays : Arrays) : Type 0 where
  pub proper : AreProperArrays arrays

pub record ProperObjects (objects : Objects) : Type 0 where
  pub proper : AreProperObjects objects

pub record AllProper (shapes : Shapes) : Type 0 where
  pub proper : AreProperShapes shapes

pub record FieldsProper (shapes : FieldShapes) : Type 0 where
  pub proper : AreProperFields shapes
