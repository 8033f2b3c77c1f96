-- How a tree of a shape of a table is built by its number. No public clause cites this module.
use Rattle.std.specs.Prelude.{ℕ, List, map, Bool, false, Option, Some, None, bytes_eq}
use Rattle.asl_model.specs.Examples.{example}
use Rattle.asl_model.specs.Names.{FieldName}
use Rattle.asl_model.specs.Placing.{without_field}
use Rattle.asl_model.specs.Shape.{Shape}
use Rattle.asl_model.specs.Tree.{Tree, Fields}
use Rattle.asl_numbered.specs.Expansion.{shape_at}

-- the examples of the shapes of those numbers, in order
abbrev pub examples_at : List Shape → List ℕ → List Tree
examples_at table ns = map (λ n. example (shape_at table n)) ns

-- the fields but that of the name, if one is given
abbrev pub without : Option FieldName → Fields → Fields
without None fs = fs
without (Some n) fs = without_field n fs

-- the name is the one that is given
abbrev pub is_omitted : Option FieldName → FieldName → Bool
is_omitted None n = false
is_omitted (Some other) n = bytes_eq n other
