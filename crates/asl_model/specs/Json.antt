-- What a JSON text is (RFC 8259), and the compact text of a tree. A text is its bytes.
-- A text is JSON where it is UTF-8, with no byte order mark, and `serde_json` reads it: the last value of a repeated
-- field name stays, and arrays and objects nest at most 127 deep. The profile chooses: every number of a tree is
-- written whole, with no fraction and no exponent, and lies between -9223372036854775808 and 9223372036854775807.
use Rattle.std.specs.Prelude.{◌≡◌, List, ℕ, IsUtf8, Option, Some, option_map, option_and_then}
use Rattle.serde_json.specs.Data as json
use Rattle.serde_json.specs.Data.{Data, Items, Members}
use Rattle.serde_json.specs.Find.{as_i64, of_integer}
use Rattle.serde_json.specs.Read.{read}
use Rattle.serde_json.specs.Written as written
use Rattle.asl_model.specs.Tree.{Tree, Null, Boolean, Integer, Text, Array, Object, Trees}
use Rattle.asl_model.specs.Tree.{NoTrees, AndTree, Fields, NoFields, AndField}

-- the text reads as that JSON value
abbrev pub ReadsAsValue : List ℕ → Data → Type 0
ReadsAsValue text v = IsUtf8 text × (read text ≡ Some v)

abbrev mutual
  -- the tree that a JSON value is; there is none where one of its numbers isn't whole, or is out of range
  pub tree_of : Data → Option Tree
  tree_of json.null = Some Null
  tree_of (json.boolean b) = Some (Boolean b)
  tree_of (json.number n) = option_map Integer (as_i64 n)
  tree_of (json.string s) = Some (Text s)
  tree_of (json.array vs) = option_map Array (elements_of vs)
  tree_of (json.object ms) = option_map Object (members_of ms)

  -- the trees that the elements of an array are, in the same order
  pub elements_of : Items → Option Trees
  elements_of json.no_items = Some NoTrees
  elements_of (json.item v vs) = option_and_then (λ t. option_map (AndTree t) (elements_of vs)) (tree_of v)

  -- the fields that the members of an object are, in the same order
  pub members_of : Members → Option Fields
  members_of json.no_members = Some NoFields
  members_of (json.member n v ms) = option_and_then (λ t. option_map (AndField n t) (members_of ms)) (tree_of v)

-- the text reads as that tree
abbrev pub ReadsAsTree : List ℕ → Tree → Type 0
ReadsAsTree text t = (v : Data) × ReadsAsValue text v × (tree_of v ≡ Some t)

abbrev mutual
  -- the JSON value that a tree is, names as they stand
  pub value_of : Tree → Data
  value_of Null = json.null
  value_of (Boolean b) = json.boolean b
  value_of (Integer n) = json.number (of_integer n)
  value_of (Text s) = json.string s
  value_of (Array ts) = json.array (items_of ts)
  value_of (Object fs) = json.object (members_for fs)

  -- so for the elements
  pub items_of : Trees → Items
  items_of NoTrees = json.no_items
  items_of (AndTree t ts) = json.item (value_of t) (items_of ts)

  -- so for the fields
  pub members_for : Fields → Members
  members_for NoFields = json.no_members
  members_for (AndField n t fs) = json.member n (value_of t) (members_for fs)

-- the text of a tree with no space in it, names as they stand, in the words of `serde_json`
abbrev pub compact_text : Tree → List ℕ
compact_text t = written.compact_text (value_of t)
