-- The log of diagnostics in SARIF 2.1.0 (OASIS), the names of each object in byte order.
use Rattle.std.specs.Prelude.{ℕ, pos, List, [], ◌∷◌, ◌++◌, ◌==◌, ◌||◌, Bool, Option, Some, None, String, codes, decimal, drop, encode_utf8, if◌then◌else◌, nat_eq, string_bytes}
use Rattle.std.specs.Borrow.{Bor}
use Rattle.std.specs.Char.{is_ascii_alphanumeric}
use Rattle.std.specs.List.{flat_map, starts_with}
use Rattle.std.specs.Str.{chars}
use Rattle.std.specs.declared.alloc.Global.{Global}
use Rattle.json.specs.Token.{Token, key, number}
use Rattle.percent_encoding.specs.Percent.{percent_encode_byte}
use Rattle.asl_model.specs.Names.{Bytes}
use Rattle.asl_model.specs.Tree as model
use Rattle.asl_model.specs.Tree.{Integer, Text, Array, Object, Trees, NoTrees, AndTree, Fields, NoFields, AndField}
use Rattle.asl_tree.specs.View.{view}
use Rattle.asl_tree.specs.Written.{tree_tokens}
use Rattle.asl_tree.specs.declared.Tree.{Tree}
use Rattle.asl_diagnostics.specs.Listed.{with_example}
use Rattle.asl_diagnostics.specs.Rules.{index_of, rules_after}
use Rattle.asl_diagnostics.specs.Statement.{severity_name, sentence}
use Rattle.asl_diagnostics.specs.declared.Diagnostic.{Diagnostic}
use Rattle.asl_diagnostics.specs.declared.rules.Rule.{Rule}

-- ---- texts

-- a character of a message: in its text a brace stands for itself where it is doubled (3.11.5)
abbrev pub message_char : ℕ → Bytes
message_char c = if (c == 123) || (c == 125) then encode_utf8 c ++ encode_utf8 c else encode_utf8 c

-- a text as that of a message
abbrev pub message_text : Bytes → Bytes
message_text text = flat_map message_char (chars text)

-- a byte that stands for itself in a path of a URI (RFC 3986, 2.3 and 3.3)
abbrev pub is_unreserved : ℕ → Bool
is_unreserved b =
    is_ascii_alphanumeric b || ((b == 45) || ((b == 46) || ((b == 47) || ((b == 95) || (b == 126)))))

-- a byte of a path, escaped where it has to be
abbrev pub uri_byte : ℕ → Bytes
uri_byte b = if is_unreserved b then b ∷ [] else percent_encode_byte b

-- a file's path as a URI: a relative one stays relative, without `./` in front of it
abbrev pub uri_of : Bytes → Bytes
uri_of path =
    if starts_with nat_eq path (codes "/") then codes "file://" ++ flat_map uri_byte path else
    (if starts_with nat_eq path (codes "./") then flat_map uri_byte (drop 2 path) else flat_map uri_byte path)

-- ---- rules

-- an object with one text
abbrev pub one_text : Bytes → Bytes → model.Tree
one_text name text = Object (AndField name (Text text) NoFields)

-- a reportingDescriptor (3.49)
abbrev pub rule_tree : Rule → model.Tree
rule_tree r =
    Object
    (AndField (codes "defaultConfiguration") (one_text (codes "level") (severity_name r.severity))
    (AndField (codes "fullDescription") (one_text (codes "text") r.full.now)
    (AndField (codes "help") (one_text (codes "text") r.help.now)
    (AndField (codes "id") (Text r.id.now)
    (AndField (codes "shortDescription") (one_text (codes "text") r.short.now) NoFields)))))

-- each of the rules
abbrev pub rule_trees : List (Bor Rule) → Trees
rule_trees [] = NoTrees
rule_trees (r ∷ rs) = AndTree (rule_tree r.now) (rule_trees rs)

-- ---- results

-- a logicalLocation of that kind (3.33)
abbrev pub named_tree : Bytes → Bytes → model.Tree
named_tree kind name =
    Object (AndField (codes "kind") (Text kind) (AndField (codes "name") (Text name) NoFields))

-- the elements, in front of them one of that kind where it has a name
abbrev pub with_named : Bytes → Option (String Global) → Trees → Trees
with_named kind None others = others
with_named kind (Some name) others = AndTree (named_tree kind (string_bytes name)) others

-- the state as an object, and its field as a property
abbrev pub logical_trees : Diagnostic → Trees
logical_trees d = with_named (codes "object") d.state (with_named (codes "property") d.field NoTrees)

-- a physicalLocation (3.29)
abbrev pub physical_tree : Diagnostic → model.Tree
physical_tree d =
    Object
    (AndField (codes "artifactLocation") (one_text (codes "uri") (uri_of (string_bytes d.file)))
    (AndField (codes "region") (Object
    (AndField (codes "startColumn") (Integer (pos d.place.column))
    (AndField (codes "startLine") (Integer (pos d.place.line)) NoFields))) NoFields))

-- a location (3.28)
abbrev pub location_tree : Diagnostic → model.Tree
location_tree d =
    Object
    (AndField (codes "logicalLocations") (Array (logical_trees d))
    (AndField (codes "physicalLocation") (physical_tree d) NoFields))

-- in front of the fields `properties` with the example, where there is one
abbrev pub with_properties : Option Tree → Fields → Fields
with_properties None fields = fields
with_properties (Some tree) fields =
    AndField (codes "properties") (Object (with_example (Some tree) NoFields)) fields

-- the field `ruleIndex`, where there is such a rule
abbrev pub index_fields : Option ℕ → Fields
index_fields None = NoFields
index_fields (Some n) = AndField (codes "ruleIndex") (Integer (pos n)) NoFields

-- a result (3.27)
abbrev pub result_tree : List (Bor Rule) → Diagnostic → model.Tree
result_tree rules d =
    Object
    (AndField (codes "level") (Text (severity_name d.severity))
    (AndField (codes "locations") (Array (AndTree (location_tree d) NoTrees))
    (AndField (codes "message") (one_text (codes "text") (message_text (sentence d)))
    (with_properties d.example
    (AndField (codes "ruleId") (Text d.rule.now.id.now)
    (index_fields (index_of rules d.rule.now.id.now)))))))

-- that of each diagnostic
abbrev pub result_trees : List (Bor Rule) → List Diagnostic → Trees
result_trees rules [] = NoTrees
result_trees rules (d ∷ ds) = AndTree (result_tree rules d) (result_trees rules ds)

-- ---- the log

-- a tool with its driver (3.18, 3.19): the rules that occur
abbrev pub tool_tree : List (Bor Rule) → model.Tree
tool_tree rules =
    Object (AndField (codes "driver") (Object
    (AndField (codes "name") (Text (codes "asl"))
    (AndField (codes "rules") (Array (rule_trees rules)) NoFields))) NoFields)

-- a run (3.14): columns count Unicode characters
abbrev pub run_tree : List (Bor Rule) → List Diagnostic → model.Tree
run_tree rules ds =
    Object
    (AndField (codes "columnKind") (Text (codes "unicodeCodePoints"))
    (AndField (codes "results") (Array (result_trees rules ds))
    (AndField (codes "tool") (tool_tree rules) NoFields)))

-- a log of one run (3.13), for the rules that are listed in it
abbrev pub log_tree : List (Bor Rule) → List Diagnostic → model.Tree
log_tree rules ds =
    Object
    (AndField (codes "$schema") (Text (codes "https://json.schemastore.org/sarif-2.1.0.json"))
    (AndField (codes "runs") (Array (AndTree (run_tree rules ds) NoTrees))
    (AndField (codes "version") (Text (codes "2.1.0")) NoFields)))

-- with those that occur
abbrev pub sarif_tree : List Diagnostic → model.Tree
sarif_tree ds = log_tree (rules_after [] ds) ds

-- ---- for private clauses: the tokens of what may be absent

abbrev pub named_tokens : Bytes → Option (String Global) → List Token
named_tokens kind None = []
named_tokens kind (Some name) = tree_tokens (named_tree kind (string_bytes name))

abbrev pub properties_tokens : Option Tree → List Token
properties_tokens None = []
properties_tokens (Some tree) = key (codes "properties") ∷ tree_tokens (Object (with_example (Some tree) NoFields))

abbrev pub index_tokens : Option ℕ → List Token
index_tokens None = []
index_tokens (Some n) = key (codes "ruleIndex") ∷ number (decimal n) ∷ []
