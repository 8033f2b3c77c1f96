-- What the parts of a shape show, kind by kind.
use Rattle.std.specs.Prelude.{List, [], ◌∷◌, ◌++◌, Option, Some, None, Bool, if◌then◌else◌}
use Rattle.asl_model.specs.Shape as model
use Rattle.asl_shape.specs.View.{view, shapes_view, fields_view}
use Rattle.asl_shape.specs.declared.kinds.Arrays.{Arrays}
use Rattle.asl_shape.specs.declared.kinds.Objects.{Objects}
use Rattle.asl_shape.specs.declared.kinds.Kinds.{Kinds}
use Rattle.asl_shape.specs.declared.kinds.OwnedArrays.{OwnedArrays}
use Rattle.asl_shape.specs.declared.kinds.OwnedObjects.{OwnedObjects}
use Rattle.asl_shape.specs.declared.kinds.OwnedKinds.{OwnedKinds}
use Rattle.asl_shape.specs.declared.shape.Shape as shape
use Rattle.asl_shape.specs.declared.shape.Shape.{Shape}

-- the simple kinds
abbrev pub simple_of : Bool → Bool → Bool → Bool → model.Simple
simple_of null boolean integer text =
    record { null = null; boolean = boolean; integer = integer; text = text }

-- the arrays that are lent, where there are any
abbrev pub arrays_view : Option Arrays → model.Arrays
arrays_view None = model.WithoutArrays
arrays_view (Some arrays) = model.ArraysOf (shapes_view arrays.first.now) (view arrays.rest.now)

-- the objects that are lent, where there are any
abbrev pub objects_view : Option Objects → model.Objects
objects_view None = model.WithoutObjects
objects_view (Some objects) = model.ObjectsOf (fields_view objects.fields.now.entries) objects.extra

-- the shape of these kinds
abbrev pub kinds_view : Kinds → model.Shape
kinds_view kinds =
    model.OfKinds (simple_of kinds.null kinds.boolean kinds.integer kinds.text)
    (arrays_view kinds.arrays) (objects_view kinds.objects)

-- the shape that was taken apart into these kinds, or that is Any
abbrev pub taken_apart : Option Kinds → model.Shape
taken_apart None = model.Any
taken_apart (Some kinds) = kinds_view kinds

-- the arrays that are owned, where there are any
abbrev pub owned_arrays_view : Option OwnedArrays → model.Arrays
owned_arrays_view None = model.WithoutArrays
owned_arrays_view (Some arrays) = model.ArraysOf (shapes_view arrays.first.items) (view arrays.rest.value)

-- the objects that are owned, where there are any
abbrev pub owned_objects_view : Option OwnedObjects → model.Objects
owned_objects_view None = model.WithoutObjects
owned_objects_view (Some objects) = model.ObjectsOf (fields_view objects.fields.entries) objects.extra

-- the shape of these kinds
abbrev pub owned_view : OwnedKinds → model.Shape
owned_view kinds =
    model.OfKinds (simple_of kinds.null kinds.boolean kinds.integer kinds.text)
    (owned_arrays_view kinds.arrays) (owned_objects_view kinds.objects)

-- ---- a shape of each kind, in byte order of the names of types

-- a shape, if it is wanted
abbrev pub part_if : Bool → Shape → List Shape
part_if wanted part = if wanted then part ∷ [] else []

-- the shape of these arrays, where there are any
abbrev pub array_part : Option OwnedArrays → List Shape
array_part None = []
array_part (Some arrays) = shape.List arrays.first arrays.rest ∷ []

-- the shape of these objects, where there are any
abbrev pub object_part : Option OwnedObjects → List Shape
object_part None = []
object_part (Some objects) = shape.Object objects.fields objects.extra ∷ []

-- all of them
abbrev pub parts_of : OwnedKinds → List Shape
parts_of kinds =
    array_part kinds.arrays
    ++ (part_if kinds.boolean shape.Bool
    ++ (part_if kinds.integer shape.Int
    ++ (part_if kinds.null shape.Null ++ (object_part kinds.objects ++ part_if kinds.text shape.Text))))
