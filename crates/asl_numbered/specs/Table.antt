-- What is true of the nodes of a table, each with what is known of its shape.
use Rattle.std.specs.Prelude.{◌≡◌, ℕ, List, Some, slice_get}
use Rattle.std.specs.List.Sorted.{IsStrictlySortedBy}
use Rattle.std.specs.Map.{keys_of}
use Rattle.asl_model.specs.Shape as model
use Rattle.asl_numbered.specs.declared.node.Node.{Node}
use Rattle.asl_numbered.specs.declared.node.Node.TheVariants.{Any, Never, Null, Bool as Truth, Int, Text, List as Elements, Object, Several}
use Rattle.asl_numbered.specs.declared.node.NodeField.{NodeField}
use Rattle.asl_numbered.specs.declared.table.Facts.{Facts}
use Rattle.asl_numbered.specs.Expansion.{expansions, shape_at, RefersBelow, AreDistinct}
use Rattle.asl_numbered.specs.Kinds.{IsProperNode, full, tidy}
use Rattle.asl_numbered.specs.Names.{Name, name_cmp}

-- the names of the fields stand in byte order
abbrev pub AreFieldsInOrder : List (Name × NodeField) → Type 0
AreFieldsInOrder fs = IsStrictlySortedBy name_cmp (keys_of fs)

-- so do those of the node, where it has fields
abbrev pub HasFieldsInOrder : Node → Type 0
HasFieldsInOrder Any = Unit {0}
HasFieldsInOrder Never = Unit {0}
HasFieldsInOrder Null = Unit {0}
HasFieldsInOrder Truth = Unit {0}
HasFieldsInOrder Int = Unit {0}
HasFieldsInOrder Text = Unit {0}
HasFieldsInOrder (Elements first rest) = Unit {0}
HasFieldsInOrder (Object fields extra) = AreFieldsInOrder fields.entries
HasFieldsInOrder (Several numbers) = Unit {0}

-- the same as a record
pub record IsOrdered (node : Node) : Type 0 where
  pub ordered : HasFieldsInOrder node

-- the facts are what they say of the shape
pub record AreFactsOf (s : model.Shape) (facts : Facts) : Type 0 where
  pub inhabited : facts.inhabited ≡ model.inhabited s
  pub full : facts.full ≡ full s
  pub several : facts.several ≡ model.has_several s
  pub tidy : facts.tidy ≡ tidy s

-- the shapes that the nodes of the entries stand for
abbrev pub shapes_in : List (Node × Facts) → List model.Shape
shapes_in entries = expansions (keys_of entries)

-- Each node has numbers of earlier ones alone, no shape stands twice, the facts are those of the shape, the names of
-- fields stand in order, and nodes of several parts are proper.
pub record IsTable (entries : List (Node × Facts)) : Type 0 where
  pub earlier : (n : ℕ) (e : Node × Facts) → slice_get entries n ≡ Some e → RefersBelow n e.0
  pub distinct : AreDistinct (shapes_in entries)
  pub facts : (n : ℕ) (e : Node × Facts) → slice_get entries n ≡ Some e → AreFactsOf (shape_at (shapes_in entries) n) e.1
  pub ordered : (n : ℕ) (e : Node × Facts) → slice_get entries n ≡ Some e → IsOrdered e.0
  pub proper : (n : ℕ) (e : Node × Facts) → slice_get entries n ≡ Some e → IsProperNode (shapes_in entries) e.0
