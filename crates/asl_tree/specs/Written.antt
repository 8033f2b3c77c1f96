-- The tokens of a tree's compact text, and what their JSON reads as.
use Rattle.std.specs.Prelude.{◌≡◌, List, Some, String}
use Rattle.std.specs.declared.alloc.Global.{Global}
use Rattle.std.specs.List.{AllByRecursion}
use Rattle.json.specs.Token.{Token}
use Rattle.json.specs.Tree.{json_tokens, items_tokens, members_tokens}
use Rattle.serde_json.specs.Read.{of_json}
use Rattle.serde_json.specs.Written.{outline, items_outline, members_outline}
use Rattle.asl_model.specs.Json.{tree_of, value_of, items_of, members_for}
use Rattle.asl_model.specs.Tree as model
use Rattle.asl_tree.specs.View.{view, elements_view, entries_view}
use Rattle.asl_tree.specs.declared.Tree.{Tree}

-- a tree's tokens, the names of an object as they stand
abbrev pub tree_tokens : model.Tree → List Token
tree_tokens t = json_tokens (outline (value_of t))

-- their JSON is the tree's value, and that is read as the tree
pub record ReadsBack (t : model.Tree) : Type 0 where
  pub value : of_json (outline (value_of t)) ≡ Some (value_of t)
  pub tree : tree_of (value_of t) ≡ Some t

-- ---- for private clauses

-- the tokens of what stands in a bracket, with the closing bracket
abbrev pub elements_tokens : List Tree → List Token
elements_tokens ts = items_tokens (items_outline (items_of (elements_view ts)))

abbrev pub entries_tokens : List (String Global × Tree) → List Token
entries_tokens es = members_tokens (members_outline (members_for (entries_view es)))

-- each of several trees reads back, and the value of each entry
pub record AllReadBack (ts : List Tree) : Type 0 where
  pub each : AllByRecursion (λ t. ReadsBack (view t)) ts

pub record ValuesReadBack (es : List (String Global × Tree)) : Type 0 where
  pub each : AllByRecursion (λ (e : String Global × Tree). ReadsBack (view e.1)) es
