-- The tree of the definitions that a `Tree` of the code stands for.
use Rattle.std.specs.Prelude.{List, [], ◌∷◌, map, String, string_bytes}
use Rattle.std.specs.declared.alloc.Global.{Global}
use Rattle.asl_model.specs.Tree as model
use Rattle.asl_tree.specs.declared.Tree.{Tree, fold-Tree}
use Rattle.asl_tree.specs.declared.Tree.TheOpen.{Tree-F}

-- a map's entries, in the order of their names, as fields
abbrev pub fields_from : List (String Global × model.Tree) → model.Fields
fields_from [] = model.NoFields
fields_from (e ∷ es) = model.AndField (string_bytes e.0) e.1 (fields_from es)

-- one level, with each tree inside already seen
abbrev pub view_step : Tree-F model.Tree → model.Tree
view_step Tree-F.Null = model.Null
view_step (Tree-F.Bool b) = model.Boolean b
view_step (Tree-F.Int n) = model.Integer n
view_step (Tree-F.Text s) = model.Text (string_bytes s)
view_step (Tree-F.List v) = model.Array (model.trees_of v.items)
view_step (Tree-F.Object m) = model.Object (fields_from m.entries)

-- the tree
abbrev pub view : Tree → model.Tree
view = fold-Tree model.Tree view_step

-- the trees of a list, as elements
abbrev pub elements_view : List Tree → model.Trees
elements_view ts = model.trees_of (map view ts)

-- the entries of a map, as fields
abbrev pub entries_view : List (String Global × Tree) → model.Fields
entries_view es = fields_from (map (λ e. (e.0, view e.1)) es)
