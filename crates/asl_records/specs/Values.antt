-- JSON values that are given trees.
use Rattle.std.specs.Prelude.{◌≡◌, ℕ, List, Option, Some, option_map, String}
use Rattle.std.specs.Borrow.{Bor}
use Rattle.std.specs.declared.alloc.Global.{Global}
use Rattle.serde_json.specs.Data as json
use Rattle.serde_json.specs.Data.{Data, Items, Members, negative}
use Rattle.serde_json.specs.Find.{get_member}
use Rattle.asl_model.specs.Json.{tree_of, elements_of, members_of}
use Rattle.asl_model.specs.Tree.{Tree, Null, Boolean, Integer, Text, Array, Object, Trees}
use Rattle.asl_model.specs.Tree.{NoTrees, AndTree, Fields, NoFields, AndField}
use Rattle.asl_tree.specs.View.{view, entries_view}
use Rattle.asl_tree.specs.declared.Tree.{Tree as CodeTree}

-- the value is the tree
abbrev pub IsValue : Tree → Data → Type 0
IsValue t v = tree_of v ≡ Some t

-- that holds of each such
pub record For {X : Type 0} (Is : X → Type 0) (P : X → Type 0) : Type 0 where
  pub each : (x : X) → Is x → P x

-- each such gives the same, of which that holds
pub record Gives {X A : Type 0} (Is : X → Type 0) (f : X → A) (P : A → Type 0) : Type 0 where
  pub one : A
  pub same : (x : X) → Is x → f x ≡ one
  pub holds : P one

-- ---- for private clauses

-- the items are the elements
abbrev pub AreItems : Trees → Items → Type 0
AreItems ts vs = elements_of vs ≡ Some ts

-- the members are the fields
abbrev pub AreMembers : Fields → Members → Type 0
AreMembers fs ms = members_of ms ≡ Some fs

-- the value is the tree, where there is one; there is none where there is no tree
abbrev pub IsPart : Option Tree → Option Data → Type 0
IsPart part value = option_map tree_of value ≡ option_map Some part

abbrev mutual
  -- one value that is the tree, however large its numbers are
  pub as_value : Tree → Data
  as_value Null = json.null
  as_value (Boolean b) = json.boolean b
  as_value (Integer n) = json.number (negative n)
  as_value (Text s) = json.string s
  as_value (Array ts) = json.array (as_items ts)
  as_value (Object fs) = json.object (as_members fs)

  -- so for the elements
  pub as_items : Trees → Items
  as_items NoTrees = json.no_items
  as_items (AndTree t ts) = json.item (as_value t) (as_items ts)

  -- so for the fields
  pub as_members : Fields → Members
  as_members NoFields = json.no_members
  as_members (AndField n t fs) = json.member n (as_value t) (as_members fs)

-- the value that stands there, if there is one
abbrev pub value_there : Option (Bor CodeTree) → Option Data
value_there tree = option_map (λ t. as_value (view t.now)) tree

-- and the one in a field
abbrev pub value_in : List ℕ → List (String Global × CodeTree) → Option Data
value_in field entries = get_member field (as_members (entries_view entries))
