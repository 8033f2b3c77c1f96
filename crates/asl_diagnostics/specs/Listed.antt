-- The list of diagnostics as JSON, the names of each object in byte order.
use Rattle.std.specs.Prelude.{ℕ, pos, List, [], ◌∷◌, ◌++◌, Option, Some, None, String, codes, string_bytes}
use Rattle.std.specs.declared.alloc.Global.{Global}
use Rattle.json.specs.Token.{Token, key, string}
use Rattle.asl_model.specs.Names.{Bytes}
use Rattle.asl_model.specs.Tree as model
use Rattle.asl_model.specs.Tree.{Integer, Text, Array, Object, Trees, NoTrees, AndTree, Fields, NoFields, AndField}
use Rattle.asl_tree.specs.View.{view}
use Rattle.asl_tree.specs.Written.{tree_tokens}
use Rattle.asl_tree.specs.declared.Tree.{Tree}
use Rattle.asl_diagnostics.specs.Statement.{severity_name}
use Rattle.asl_diagnostics.specs.declared.Diagnostic.{Diagnostic}

-- the fields, in front of them a text where there is one
abbrev pub with_text : Bytes → Option (String Global) → Fields → Fields
with_text name None fields = fields
with_text name (Some text) fields = AndField name (Text (string_bytes text)) fields

-- in front of them the example where there is one
abbrev pub with_example : Option Tree → Fields → Fields
with_example None fields = fields
with_example (Some tree) fields = AndField (codes "example") (view tree) fields

-- a diagnostic
abbrev pub diagnostic_tree : Diagnostic → model.Tree
diagnostic_tree d =
    Object
    (AndField (codes "column") (Integer (pos d.place.column))
    (with_example d.example
    (with_text (codes "field") d.field
    (AndField (codes "file") (Text (string_bytes d.file))
    (AndField (codes "line") (Integer (pos d.place.line))
    (AndField (codes "message") (Text (string_bytes d.message))
    (AndField (codes "rule") (Text d.rule.now.id.now)
    (AndField (codes "severity") (Text (severity_name d.severity))
    (with_text (codes "state") d.state NoFields)))))))))

-- each of them
abbrev pub diagnostic_trees : List Diagnostic → Trees
diagnostic_trees [] = NoTrees
diagnostic_trees (d ∷ ds) = AndTree (diagnostic_tree d) (diagnostic_trees ds)

-- ---- for private clauses

-- the tokens of a field that holds a text, where there is one
abbrev pub text_tokens : Bytes → Option (String Global) → List Token
text_tokens name None = []
text_tokens name (Some text) = key name ∷ string (string_bytes text) ∷ []

-- those of the example
abbrev pub example_tokens : Option Tree → List Token
example_tokens None = []
example_tokens (Some tree) = key (codes "example") ∷ tree_tokens (view tree)
