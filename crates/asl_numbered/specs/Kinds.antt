-- Shapes of one kind and of several, and when a node of several parts is proper.
use Rattle.std.specs.Prelude.{◌≤◌, ℕ, suc, List, [], ◌∷◌, length, map, Bool, true, false, not, ◌&&◌, ◌||◌, ◌==◌, Option, Some, None}
use Rattle.asl_model.specs.Shape.{Shape, Any, OfKinds, Arrays, WithoutArrays, ArraysOf, Objects, WithoutObjects, ObjectsOf, Shapes, NoShapes, AndShape, FieldShapes, NoFieldShapes, AndFieldShape, ArrayShape, BooleanShape, IntegerShape, NullShape, ObjectShape, StringShape, inhabited}
use Rattle.asl_model.specs.ShapeOrder.{takes_all_arrays, takes_all_objects}
use Rattle.asl_numbered.specs.declared.node.Node.{Node}
use Rattle.asl_numbered.specs.declared.node.Node.TheVariants as nodes
use Rattle.asl_numbered.specs.Expansion.{shape_at}

-- the shape is of one kind alone: of that at this place among array, boolean, integer, null, object, string
pub data IsOfKind : ℕ → Shape → Type 0 where
  arrays_alone : {first : Shapes} {rest : Shape} → IsOfKind 0 (ArrayShape first rest)
  booleans_alone : IsOfKind 1 BooleanShape
  integers_alone : IsOfKind 2 IntegerShape
  null_alone : IsOfKind 3 NullShape
  objects_alone : {shapes : FieldShapes} {extra : Bool} → IsOfKind 4 (ObjectShape shapes extra)
  strings_alone : IsOfKind 5 StringShape

-- each of the shapes is of one kind, and the places of these kinds ascend, the first not before that one
pub data AscendFrom : ℕ → List Shape → Type 0 where
  none_left : {place : ℕ} → AscendFrom place []
  one_behind : {place kind : ℕ} {s : Shape} {shapes : List Shape} → place ≤ kind → IsOfKind kind s
      → AscendFrom (suc kind) shapes → AscendFrom place (s ∷ shapes)

-- two shapes or more, each of one kind, in byte order of the names of their types
pub record AreSeveral (shapes : List Shape) : Type 0 where
  pub two : 2 ≤ length shapes
  pub ascend : AscendFrom 0 shapes

-- where the node is of several parts, their shapes are such
abbrev pub HasProperParts : List Shape → Node → Type 0
HasProperParts table nodes.Any = Unit {0}
HasProperParts table nodes.Never = Unit {0}
HasProperParts table nodes.Null = Unit {0}
HasProperParts table nodes.Bool = Unit {0}
HasProperParts table nodes.Int = Unit {0}
HasProperParts table nodes.Text = Unit {0}
HasProperParts table (nodes.List first rest) = Unit {0}
HasProperParts table (nodes.Object fields extra) = Unit {0}
HasProperParts table (nodes.Several numbers) = AreSeveral (map (shape_at table) numbers.items)

-- the same as a record
pub record IsProperNode (table : List Shape) (node : Node) : Type 0 where
  pub proper : HasProperParts table node

-- no arrays, or all
abbrev pub full_arrays : Arrays → Bool
full_arrays WithoutArrays = true
full_arrays (ArraysOf first rest) = takes_all_arrays (ArraysOf first rest)

-- no objects, or all
abbrev pub full_objects : Objects → Bool
full_objects WithoutObjects = true
full_objects (ObjectsOf shapes extra) = takes_all_objects (ObjectsOf shapes extra)

-- the shape has every tree of each kind of which it has one
abbrev pub full : Shape → Bool
full Any = true
full (OfKinds simple arrays objects) = full_arrays arrays && full_objects objects

abbrev mutual
  -- Nothing in the shape is left out where it is joined with itself: it has no arrays or objects of which there are none,
  -- and so it is with the shapes of their elements and fields.
  pub tidy : Shape → Bool
  tidy Any = true
  tidy (OfKinds simple arrays objects) = tidy_arrays arrays && tidy_objects objects

  -- nothing in the arrays is
  pub tidy_arrays : Arrays → Bool
  tidy_arrays WithoutArrays = true
  tidy_arrays (ArraysOf first rest) = tidy_places first && tidy rest

  -- nothing in the objects is
  pub tidy_objects : Objects → Bool
  tidy_objects WithoutObjects = true
  tidy_objects (ObjectsOf shapes extra) = tidy_fields shapes

  -- each of the shapes is inhabited, and nothing in it is left out
  pub tidy_places : Shapes → Bool
  tidy_places NoShapes = true
  tidy_places (AndShape s others) = inhabited s && (tidy s && tidy_places others)

  -- the shape of each needed field is inhabited, and nothing in the shape of a field is left out
  pub tidy_fields : FieldShapes → Bool
  tidy_fields NoFieldShapes = true
  tidy_fields (AndFieldShape n needed s shapes) = (not needed || inhabited s) && (tidy s && tidy_fields shapes)

-- the place of the node's kind among these, if it is of one
abbrev pub place_of : Node → Option ℕ
place_of nodes.Any = None
place_of nodes.Never = None
place_of nodes.Null = Some 3
place_of nodes.Bool = Some 1
place_of nodes.Int = Some 2
place_of nodes.Text = Some 5
place_of (nodes.List first rest) = Some 0
place_of (nodes.Object fields extra) = Some 4
place_of (nodes.Several numbers) = None

-- the node is of Any, or has as many parts as there are kinds
abbrev pub of_every_kind : Node → Bool
of_every_kind nodes.Any = true
of_every_kind nodes.Never = false
of_every_kind nodes.Null = false
of_every_kind nodes.Bool = false
of_every_kind nodes.Int = false
of_every_kind nodes.Text = false
of_every_kind (nodes.List first rest) = false
of_every_kind (nodes.Object fields extra) = false
of_every_kind (nodes.Several numbers) = length numbers.items == 6

-- the node has no parts, whatever shapes there are
abbrev pub IsSimple : Node → Type 0
IsSimple nodes.Any = Unit {0}
IsSimple nodes.Never = Unit {0}
IsSimple nodes.Null = Unit {0}
IsSimple nodes.Bool = Unit {0}
IsSimple nodes.Int = Unit {0}
IsSimple nodes.Text = Unit {0}
IsSimple (nodes.List first rest) = ⊥
IsSimple (nodes.Object fields extra) = ⊥
IsSimple (nodes.Several numbers) = ⊥
