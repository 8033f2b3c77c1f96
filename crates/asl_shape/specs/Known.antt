-- What is known of a shape as far as `inhabited` has to look at it, from the maps and texts that it goes through.
use Rattle.std.specs.Prelude.{Bool, true, false, IsTrue, IsUtf8}
use Rattle.asl_model.specs.Shape.{Shape, Any, OfKinds, Arrays, WithoutArrays, ArraysOf, Objects, WithoutObjects, ObjectsOf, Shapes, NoShapes, AndShape, FieldShapes, NoFieldShapes, AndFieldShape, some_simple, some_array, before_mentions}

-- the names are UTF-8, each stands once, in byte order
abbrev pub AreInOrder : FieldShapes → Type 0
AreInOrder NoFieldShapes = Unit {0}
AreInOrder (AndFieldShape n needed s shapes) = IsUtf8 n × IsTrue (before_mentions n shapes) × AreInOrder shapes

-- nothing where the first test holds; else the first fact where the second test does, and else the second
abbrev pub unless_first : Bool → Bool → Type 0 → Type 0 → Type 0
unless_first true array a o = Unit {0}
unless_first false true a o = a
unless_first false false a o = o

abbrev mutual
  -- It takes a simple kind; or else the names are in order in the shapes of the first elements, where there are arrays,
  -- or else in the objects and in the shapes of their needed fields: in these at any depth.
  pub IsOrderly : Shape → Type 0
  IsOrderly Any = Unit {0}
  IsOrderly (OfKinds simple arrays objects) =
      unless_first (some_simple simple) (some_array arrays) (AreOrderlyArrays arrays) (AreOrderlyObjects objects)

  pub AreOrderlyArrays : Arrays → Type 0
  AreOrderlyArrays WithoutArrays = Unit {0}
  AreOrderlyArrays (ArraysOf first rest) = AreOrderly first

  pub AreOrderlyObjects : Objects → Type 0
  AreOrderlyObjects WithoutObjects = Unit {0}
  AreOrderlyObjects (ObjectsOf shapes extra) = AreInOrder shapes × AreNeededOrderly shapes

  pub AreOrderly : Shapes → Type 0
  AreOrderly NoShapes = Unit {0}
  AreOrderly (AndShape s others) = IsOrderly s × AreOrderly others

  pub AreNeededOrderly : FieldShapes → Type 0
  AreNeededOrderly NoFieldShapes = Unit {0}
  AreNeededOrderly (AndFieldShape n needed s shapes) = (IsTrue needed → IsOrderly s) × AreNeededOrderly shapes

-- these as records
pub record Orderly (s : Shape) : Type 0 where
  pub orderly : IsOrderly s

pub record OrderlyArrays (arrays : Arrays) : Type 0 where
  pub orderly : AreOrderlyArrays arrays

pub record OrderlyObjects (objects : Objects) : Type 0 where
  pub orderly : AreOrderlyObjects objects

pub record AllOrderly (shapes : Shapes) : Type 0 where
  pub orderly : AreOrderly shapes

pub record NeededOrderly (shapes : FieldShapes) : Type 0 where
  pub orderly : AreNeededOrderly shapes
