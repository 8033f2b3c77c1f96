-- What the shape of a number takes of each kind, as it is taken apart and put together.
use Rattle.std.specs.Prelude.{◌≡◌, ◌<◌, ◌≤◌, ℕ, List, [], ◌∷◌, ◌++◌, length, map, Bool, false, ◌||◌, Option, Some, None, IfSome, if◌then◌else◌}
use Rattle.std.specs.Option.{option_or}
use Rattle.asl_model.specs.Shape.{Shape, Any, OfKinds, Simple, Arrays, WithoutArrays, ArraysOf, Objects, WithoutObjects, ObjectsOf, ArrayShape, BooleanShape, IntegerShape, NullShape, ObjectShape, StringShape}
use Rattle.asl_numbered.specs.declared.kinds.NodeKinds.{NodeKinds}
use Rattle.asl_numbered.specs.declared.kinds.NodeArrays.{NodeArrays}
use Rattle.asl_numbered.specs.declared.kinds.NodeObjects.{NodeObjects}
use Rattle.asl_numbered.specs.declared.kinds.KindNumbers.{KindNumbers}
use Rattle.asl_numbered.specs.Expansion.{shape_at, shapes_at, fields_at, numbers_in, AreBelow}

-- ---- taken apart

-- the arrays that the shape takes
abbrev pub arrays_over : List Shape → Option NodeArrays → Arrays
arrays_over table None = WithoutArrays
arrays_over table (Some arrays) = ArraysOf (shapes_at table arrays.first.now) (shape_at table arrays.rest)

-- the objects
abbrev pub objects_over : List Shape → Option NodeObjects → Objects
objects_over table None = WithoutObjects
objects_over table (Some objects) = ObjectsOf (fields_at table objects.fields.now.entries) objects.extra

-- the simple kinds
abbrev pub simple_of : NodeKinds → Simple
simple_of kinds =
    record { null = kinds.null; boolean = kinds.boolean; integer = kinds.integer; text = kinds.text }

-- the shape of these kinds
abbrev pub kinds_over : List Shape → NodeKinds → Shape
kinds_over table kinds =
    OfKinds (simple_of kinds) (arrays_over table kinds.arrays) (objects_over table kinds.objects)

-- no trees of any kind
abbrev pub no_kinds : NodeKinds
no_kinds = record { null = false; boolean = false; integer = false; text = false; arrays = None; objects = None }

-- the kinds of both; of arrays and of objects those of the first that has some
abbrev pub both_kinds : NodeKinds → NodeKinds → NodeKinds
both_kinds a b =
    record {
      null = a.null || b.null;
      boolean = a.boolean || b.boolean;
      integer = a.integer || b.integer;
      text = a.text || b.text;
      arrays = option_or a.arrays b.arrays;
      objects = option_or a.objects b.objects;
    }

-- the shape that was taken apart
abbrev pub taken_apart : List Shape → Option NodeKinds → Shape
taken_apart table None = Any
taken_apart table (Some kinds) = kinds_over table kinds

-- their own number, which isn't above that one, is of these arrays alone; those of their elements are below it
pub record AreArraysAt (table : List Shape) (number : ℕ) (arrays : NodeArrays) : Type 0 where
  pub within : arrays.number ≤ number
  pub alone : shape_at table arrays.number ≡ ArrayShape (shapes_at table arrays.first.now) (shape_at table arrays.rest)
  pub first : AreBelow arrays.number arrays.first.now
  pub rest : arrays.rest < arrays.number

-- the same of objects and their fields
pub record AreObjectsAt (table : List Shape) (number : ℕ) (objects : NodeObjects) : Type 0 where
  pub within : objects.number ≤ number
  pub alone : shape_at table objects.number ≡ ObjectShape (fields_at table objects.fields.now.entries) objects.extra
  pub fields : AreBelow objects.number (numbers_in objects.fields.now.entries)

-- where there are arrays, they are such
abbrev pub AreArraysIfAny : List Shape → ℕ → Option NodeArrays → Type 0
AreArraysIfAny table number None = Unit {0}
AreArraysIfAny table number (Some arrays) = AreArraysAt table number arrays

-- where there are objects, likewise
abbrev pub AreObjectsIfAny : List Shape → ℕ → Option NodeObjects → Type 0
AreObjectsIfAny table number None = Unit {0}
AreObjectsIfAny table number (Some objects) = AreObjectsAt table number objects

-- both of these kinds
pub record AreKindsAt (table : List Shape) (number : ℕ) (kinds : NodeKinds) : Type 0 where
  pub arrays : AreArraysIfAny table number kinds.arrays
  pub objects : AreObjectsIfAny table number kinds.objects

-- ---- put together

-- the arrays of a shape that isn't Any
abbrev pub arrays_of : Shape → Arrays
arrays_of Any = WithoutArrays
arrays_of (OfKinds simple arrays objects) = arrays

-- its objects
abbrev pub objects_of : Shape → Objects
objects_of Any = WithoutObjects
objects_of (OfKinds simple arrays objects) = objects

-- the arrays of the shape of that number, if one is given
abbrev pub arrays_at : List Shape → Option ℕ → Arrays
arrays_at table None = WithoutArrays
arrays_at table (Some number) = arrays_of (shape_at table number)

-- its objects
abbrev pub objects_at : List Shape → Option ℕ → Objects
objects_at table None = WithoutObjects
objects_at table (Some number) = objects_of (shape_at table number)

-- the number, if one is given, is in the table, and these are the arrays of its shape
pub record HasArraysAt (table : List Shape) (arrays : Arrays) (number : Option ℕ) : Type 0 where
  pub within : IfSome number (λ n. n < length table)
  pub same : arrays_at table number ≡ arrays

-- the same of objects
pub record HasObjectsAt (table : List Shape) (objects : Objects) (number : Option ℕ) : Type 0 where
  pub within : IfSome number (λ n. n < length table)
  pub same : objects_at table number ≡ objects

-- the shape of these kinds
abbrev pub kinds_at : List Shape → KindNumbers → Shape
kinds_at table kinds =
    OfKinds (record { null = kinds.null; boolean = kinds.boolean; integer = kinds.integer; text = kinds.text })
    (arrays_at table kinds.arrays) (objects_at table kinds.objects)

-- ---- a shape for each kind, in byte order of the names of types

-- the shape, if it is wanted
abbrev pub part_if : Bool → Shape → List Shape
part_if wanted part = if wanted then part ∷ [] else []

-- that of these arrays alone
abbrev pub arrays_part : Arrays → List Shape
arrays_part WithoutArrays = []
arrays_part (ArraysOf first rest) = ArrayShape first rest ∷ []

-- that of these objects alone
abbrev pub objects_part : Objects → List Shape
objects_part WithoutObjects = []
objects_part (ObjectsOf shapes extra) = ObjectShape shapes extra ∷ []

-- the shapes of one kind each that are the shape together; none for Any
abbrev pub parts_of : Shape → List Shape
parts_of Any = []
parts_of (OfKinds simple arrays objects) =
    arrays_part arrays
    ++ (part_if simple.boolean BooleanShape
    ++ (part_if simple.integer IntegerShape
    ++ (part_if simple.null NullShape ++ (objects_part objects ++ part_if simple.text StringShape))))

-- the numbers are in the table, and their shapes are these, in order
pub record AreListed (table shapes : List Shape) (numbers : List ℕ) : Type 0 where
  pub within : AreBelow (length table) numbers
  pub same : map (shape_at table) numbers ≡ shapes
