-- The shape of the model that a shape shows.
use Rattle.std.specs.Prelude.{List, [], ◌∷◌, Bool, String, map, string_bytes}
use Rattle.std.specs.declared.alloc.Global.{Global}
use Rattle.asl_model.specs.Shape as model
use Rattle.asl_model.specs.ShapeOrder.{either}
use Rattle.asl_shape.specs.declared.shape.Shape.{Shape, fold-Shape}
use Rattle.asl_shape.specs.declared.shape.Shape.TheOpen.{Shape-F, Field-F}
use Rattle.asl_shape.specs.declared.shape.Field.{Field}

-- the shapes of the first elements, in order
abbrev pub shapes_of : List model.Shape → model.Shapes
shapes_of [] = model.NoShapes
shapes_of (s ∷ ss) = model.AndShape s (shapes_of ss)

-- the mentioned fields: each name, whether the field is needed, its shape
abbrev pub mentions_of : List (String Global × (Bool × model.Shape)) → model.FieldShapes
mentions_of [] = model.NoFieldShapes
mentions_of (m ∷ ms) = model.AndFieldShape (string_bytes m.0) m.1.0 m.1.1 (mentions_of ms)

-- the arrays of the first, or of the second where the first has none
abbrev pub first_arrays : model.Arrays → model.Arrays → model.Arrays
first_arrays model.WithoutArrays arrays = arrays
first_arrays (model.ArraysOf first rest) arrays = model.ArraysOf first rest

-- the objects likewise
abbrev pub first_objects : model.Objects → model.Objects → model.Objects
first_objects model.WithoutObjects objects = objects
first_objects (model.ObjectsOf shapes extra) objects = model.ObjectsOf shapes extra

-- the kinds of both; of the arrays and of the objects those of the first that has any
abbrev pub with_kinds : model.Shape → model.Shape → model.Shape
with_kinds model.Any t = model.Any
with_kinds (model.OfKinds simple arrays objects) model.Any = model.Any
with_kinds (model.OfKinds some arrays objects) (model.OfKinds simple more further) =
    model.OfKinds (either some simple) (first_arrays arrays more) (first_objects objects further)

-- What several shapes show together. Where each is of one kind, and no two are of the same, a tree has it that has one
-- of them.
abbrev pub merged : List model.Shape → model.Shape
merged [] = model.Never
merged (s ∷ parts) = with_kinds s (merged parts)

-- one level, with each shape inside already shown
abbrev pub shape_step : Shape-F model.Shape (Bool × model.Shape) → model.Shape
shape_step Shape-F.Any = model.Any
shape_step Shape-F.Never = model.Never
shape_step Shape-F.Null = model.NullShape
shape_step Shape-F.Bool = model.BooleanShape
shape_step Shape-F.Int = model.IntegerShape
shape_step Shape-F.Text = model.StringShape
shape_step (Shape-F.List first rest) = model.ArrayShape (shapes_of first.items) rest.value
shape_step (Shape-F.Object fields extra) = model.ObjectShape (mentions_of fields.entries) extra
shape_step (Shape-F.Several parts) = merged parts.items

-- what a field shows: whether it is needed, and its shape
abbrev pub field_step : Field-F model.Shape (Bool × model.Shape) → Bool × model.Shape
field_step f = (f.needed, f.shape)

-- the shape of the model that a shape shows
abbrev pub view : Shape → model.Shape
view = fold-Shape model.Shape (Bool × model.Shape) shape_step field_step

-- the same of several shapes, and of the fields of a map
abbrev pub shapes_view : List Shape → model.Shapes
shapes_view ss = shapes_of (map view ss)

abbrev pub fields_view : List (String Global × Field) → model.FieldShapes
fields_view fs = mentions_of (map (λ m. (m.0, (m.1.needed, view m.1.shape))) fs)
