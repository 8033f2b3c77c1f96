-- The tree that spells a shape, and what stands in it.
use Rattle.std.specs.Prelude.{ℕ, List, Option, Some, None, String, option_map}
use Rattle.std.specs.Borrow.{Bor}
use Rattle.std.specs.BTreeMap.{BTreeMap}
use Rattle.std.specs.declared.alloc.Global.{Global}
use Rattle.asl_model.specs.Tree as model
use Rattle.asl_model.specs.Tree.{NoFields, field_named}
use Rattle.asl_tree.specs.declared.Tree.{Tree}
pub use Rattle.asl_tree.specs.View.{view, elements_view, entries_view}

-- what stands in the field of that name, where there is one
abbrev pub member_named : List ℕ → List (String Global × Tree) → Option model.Tree
member_named n es = field_named n (entries_view es)

-- a tree, and the fields of a map, where there are such
abbrev pub tree_there : Option (Bor Tree) → Option model.Tree
tree_there t = option_map (λ x. view x.now) t

abbrev pub fields_there : Option (Bor (BTreeMap (String Global) Tree)) → model.Fields
fields_there None = NoFields
fields_there (Some es) = entries_view es.now.entries
