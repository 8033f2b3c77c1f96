-- The parts of a shape, and a shape with other parts. No public clause cites this module.
use Rattle.std.specs.Prelude.{◌≡◌, ◌<◌, ℕ, List, [], ◌∷◌, ◌++◌, length, map, Bool, Option, Some, None, IfSome, String, string_bytes}
use Rattle.std.specs.declared.alloc.Global.{Global}
use Rattle.asl_model.specs.Shape.{Shape, Any, OfKinds, Arrays, WithoutArrays, ArraysOf, Objects, WithoutObjects, ObjectsOf, Shapes, NoShapes, AndShape, FieldShapes, NoFieldShapes, AndFieldShape}
use Rattle.asl_shape.specs.View.{shapes_of}
use Rattle.asl_numbered.specs.declared.node.NodeField.{NodeField}
use Rattle.asl_numbered.specs.declared.kinds.NodeArrays.{NodeArrays}
use Rattle.asl_numbered.specs.declared.kinds.NodeKinds.{NodeKinds}
use Rattle.asl_numbered.specs.declared.kinds.NodeObjects.{NodeObjects}
use Rattle.asl_numbered.specs.declared.node.Node.{Node}
use Rattle.asl_numbered.specs.Expansion.{numbers_in, shape_over, RefersBelow}
use Rattle.asl_numbered.specs.Kinds.{IsProperNode}
use Rattle.asl_numbered.specs.TakenApart.{arrays_at, arrays_of, objects_at, objects_of}
use Rattle.asl_drafts.specs.declared.rebuilding.Rebuilt.{Rebuilt}
use Rattle.std.specs.Rc.{rc_str_bytes}
use Rattle.asl_numbered.specs.Names.{Name}

-- the shapes in order
abbrev pub each_of : Shapes → List Shape
each_of NoShapes = []
each_of (AndShape s others) = s ∷ each_of others

-- those of arrays, that of further elements first
abbrev pub parts_of_arrays : Arrays → List Shape
parts_of_arrays WithoutArrays = []
parts_of_arrays (ArraysOf first rest) = rest ∷ each_of first

-- those of the fields, and more behind them
abbrev pub shapes_in : FieldShapes → List Shape → List Shape
shapes_in NoFieldShapes more = more
shapes_in (AndFieldShape n needed s fields) more = s ∷ shapes_in fields more

-- so for objects
abbrev pub parts_of_objects : Objects → List Shape → List Shape
parts_of_objects WithoutObjects more = more
parts_of_objects (ObjectsOf fields extra) more = shapes_in fields more

-- the shapes that a shape is made of, those of fields first
abbrev pub parts_of : Shape → List Shape
parts_of Any = []
parts_of (OfKinds simple arrays objects) = parts_of_objects objects (parts_of_arrays arrays)

-- the fields with other shapes in order, and their own where there are no more
abbrev pub fields_with : FieldShapes → List Shape → FieldShapes
fields_with NoFieldShapes parts = NoFieldShapes
fields_with (AndFieldShape n needed s fields) [] = AndFieldShape n needed s fields
fields_with (AndFieldShape n needed s fields) (part ∷ parts) = AndFieldShape n needed part (fields_with fields parts)

-- the shapes behind those of the fields
abbrev pub behind_fields : FieldShapes → List Shape → List Shape
behind_fields NoFieldShapes parts = parts
behind_fields (AndFieldShape n needed s fields) [] = []
behind_fields (AndFieldShape n needed s fields) (part ∷ parts) = behind_fields fields parts

-- objects of fields with those shapes
abbrev pub objects_with : Objects → List Shape → Objects
objects_with WithoutObjects parts = WithoutObjects
objects_with (ObjectsOf fields extra) parts = ObjectsOf (fields_with fields parts) extra

-- the shapes behind those of the objects' fields
abbrev pub behind_objects : Objects → List Shape → List Shape
behind_objects WithoutObjects parts = parts
behind_objects (ObjectsOf fields extra) parts = behind_fields fields parts

-- arrays of those parts, and the arrays themselves where there are none
abbrev pub arrays_with : Arrays → List Shape → Arrays
arrays_with WithoutArrays parts = WithoutArrays
arrays_with (ArraysOf first rest) [] = ArraysOf first rest
arrays_with (ArraysOf first rest) (further ∷ parts) = ArraysOf (shapes_of parts) further

-- the shape with those parts in place of its own
abbrev pub with_parts : Shape → List Shape → Shape
with_parts Any parts = Any
with_parts (OfKinds simple arrays objects) parts =
    OfKinds simple (arrays_with arrays (behind_objects objects parts)) (objects_with objects parts)

-- ---- by number

-- the numbers of the elements' shapes, that of further ones first
abbrev pub numbers_in_arrays : Option NodeArrays → List ℕ
numbers_in_arrays None = []
numbers_in_arrays (Some arrays) = arrays.rest ∷ arrays.first.now

-- those of the fields' shapes
abbrev pub numbers_in_objects : Option NodeObjects → List ℕ
numbers_in_objects None = []
numbers_in_objects (Some objects) = numbers_in objects.fields.now.entries

-- those of the parts of the shape of these kinds
abbrev pub numbers_in_kinds : NodeKinds → List ℕ
numbers_in_kinds kinds = numbers_in_objects kinds.objects ++ numbers_in_arrays kinds.arrays

-- the arrays of the shape with that first level, if there is one
abbrev pub arrays_in : List Shape → Option Node → Arrays
arrays_in table None = WithoutArrays
arrays_in table (Some node) = arrays_of (shape_over table node)

-- its objects
abbrev pub objects_in : List Shape → Option Node → Objects
objects_in table None = WithoutObjects
objects_in table (Some node) = objects_of (shape_over table node)

-- the shape of these kinds, with those arrays and objects in place of its own
abbrev pub rebuilt_over : List Shape → NodeKinds → Rebuilt → Shape
rebuilt_over table kinds built =
    OfKinds (record { null = kinds.null; boolean = kinds.boolean; integer = kinds.integer; text = kinds.text })
    (arrays_in table built.arrays) (objects_in table built.objects)

-- where there is a first level, its numbers are below that bound, and it is proper in every table
pub record CanBePut (bound : ℕ) (level : Option Node) : Type 0 where
  pub refers : IfSome level (RefersBelow bound)
  pub proper : (table : List Shape) → IfSome level (IsProperNode table)

-- the number in the new table is that of the shape with that first level in the old one, if there is one
pub record IsPut (old : List Shape) (level : Option Node) (new : List Shape) (number : Option ℕ) : Type 0 where
  pub within : IfSome number (λ n. n < length new)
  pub arrays : arrays_at new number ≡ arrays_in old level
  pub objects : objects_at new number ≡ objects_in old level

-- what a field says but for its shape
abbrev pub mention_of : Name × NodeField → List ℕ × Bool
mention_of field = (rc_str_bytes field.0, field.1.needed)

abbrev pub mentions_of : List (Name × NodeField) → List (List ℕ × Bool)
mentions_of fields = map mention_of fields

-- the second fields are the first ones with those numbers in place of their own
pub record AreFieldsWith (fields : List (Name × NodeField)) (numbers : List ℕ)
    (new : List (Name × NodeField)) : Type 0 where
  pub mentions : mentions_of new ≡ mentions_of fields
  pub parts : numbers_in new ≡ numbers
