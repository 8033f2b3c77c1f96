-- Trees whose JSON values are read as them again. No public clause cites this module.
use Rattle.std.specs.Prelude.{◌≡◌, List, Some, String}
use Rattle.std.specs.declared.alloc.Global.{Global}
use Rattle.std.specs.List.{AllByRecursion}
use Rattle.asl_model.specs.Json.{tree_of, value_of}
use Rattle.asl_tree.specs.View.{view}
use Rattle.asl_tree.specs.declared.Tree.{Tree}

-- the JSON value that the tree is, is read as it
abbrev pub IsWhole : Tree → Type 0
IsWhole t = tree_of (value_of (view t)) ≡ Some (view t)

-- so for each of several trees, and for the value of each entry
pub record AreWhole (ts : List Tree) : Type 0 where
  pub whole : AllByRecursion IsWhole ts

pub record HaveWholeValues (es : List (String Global × Tree)) : Type 0 where
  pub whole : AllByRecursion (λ (e : String Global × Tree). IsWhole e.1) es
