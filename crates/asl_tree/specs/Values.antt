-- The trees by which JSON values are read.
use Rattle.std.specs.Prelude.{◌≡◌, List, Some, String, option_map}
use Rattle.std.specs.Option.{unwrap_or}
use Rattle.std.specs.declared.alloc.Global.{Global}
use Rattle.serde_json.specs.Data as json
use Rattle.serde_json.specs.Data.{Data, Items, Members}
use Rattle.serde_json.specs.Find.{as_integer}
use Rattle.serde_json.specs.View.{view, items_view, members_view}
use Rattle.serde_json.specs.declared.value.Value.{Value}
use Rattle.asl_model.specs.Json.{tree_of}
use Rattle.asl_model.specs.Tree.{Tree, Null, Boolean, Integer, Text, Array, Object, Trees}
use Rattle.asl_model.specs.Tree.{NoTrees, AndTree, Fields, NoFields, AndField}

-- the value is a tree, of which that holds
pub record IsTreeWith (Property : Tree → Type 0) (v : Data) : Type 0 where
  pub tree : Tree
  pub is : tree_of v ≡ Some tree
  pub holds : Property tree

-- ---- for private clauses

abbrev mutual
  -- the tree that a value is, where its numbers are whole; null stands for a number that is no integer
  pub whole : Data → Tree
  whole json.null = Null
  whole (json.boolean b) = Boolean b
  whole (json.number n) = unwrap_or (option_map Integer (as_integer n)) Null
  whole (json.string s) = Text s
  whole (json.array vs) = Array (whole_elements vs)
  whole (json.object ms) = Object (whole_fields ms)

  -- so for the elements of an array
  pub whole_elements : Items → Trees
  whole_elements json.no_items = NoTrees
  whole_elements (json.item v vs) = AndTree (whole v) (whole_elements vs)

  -- so for the members of an object
  pub whole_fields : Members → Fields
  whole_fields json.no_members = NoFields
  whole_fields (json.member n v ms) = AndField n (whole v) (whole_fields ms)

-- of a value of the code, of several, and of the members of a map
abbrev pub tree_in : Value → Tree
tree_in v = whole (view v)

abbrev pub elements_in : List Value → Trees
elements_in vs = whole_elements (items_view vs)

abbrev pub fields_in : List (String Global × Value) → Fields
fields_in ms = whole_fields (members_view ms)
