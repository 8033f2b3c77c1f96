-- The JSON for programs, the names of each object in byte order.
use Rattle.std.specs.Prelude.{pos, List, [], ◌∷◌, ◌++◌, map, Option, Some, None, String, Vec, codes, string_bytes}
use Rattle.std.specs.declared.alloc.Global.{Global}
use Rattle.json.specs.Token.{Token, key, string}
use Rattle.asl_model.specs.Json.{compact_text}
use Rattle.asl_model.specs.Names.{Bytes}
use Rattle.asl_model.specs.Printed.{line_break}
use Rattle.asl_model.specs.Tree.{Tree, Boolean, Integer, Text, Array, Object, Fields, NoFields, AndField, trees_of}
use Rattle.asl_tree.specs.Written.{tree_tokens}
use Rattle.asl_results.specs.Counted.{all_cases, failed_in, is_passed, passed_in}
use Rattle.asl_results.specs.declared.CaseResult.{CaseResult}
use Rattle.asl_results.specs.declared.SuiteResult.{SuiteResult}

-- the fields, in front of them the difference where there is one
abbrev pub with_difference : Option (String Global) → Fields → Fields
with_difference None fields = fields
with_difference (Some difference) fields = AndField (codes "difference") (Text (string_bytes difference)) fields

-- a case
abbrev pub case_tree : CaseResult → Tree
case_tree c =
    Object
    (with_difference c.difference
    (AndField (codes "name") (Text (string_bytes c.name))
    (AndField (codes "passed") (Boolean (is_passed c)) NoFields)))

-- a list of texts
abbrev pub texts_tree : List (String Global) → Tree
texts_tree texts = Array (trees_of (map (λ text. Text (string_bytes text)) texts))

-- the fields, in front of them what isn't covered where that was asked for
abbrev pub with_lacking : Option (Vec (String Global) Global) → Fields → Fields
with_lacking None fields = fields
with_lacking (Some lacking) fields = AndField (codes "notCovered") (texts_tree lacking.items) fields

-- a suite
abbrev pub suite_tree : SuiteResult → Tree
suite_tree s =
    Object
    (AndField (codes "cases") (Array (trees_of (map case_tree s.cases.items)))
    (with_lacking s.lacking
    (AndField (codes "suite") (Text (string_bytes s.name)) NoFields)))

-- all suites
abbrev pub report_tree : List SuiteResult → Tree
report_tree suites =
    Object
    (AndField (codes "failed") (Integer (pos (failed_in (all_cases suites))))
    (AndField (codes "passed") (Integer (pos (passed_in (all_cases suites))))
    (AndField (codes "suites") (Array (trees_of (map suite_tree suites))) NoFields)))

-- in one line
abbrev pub json_report : List SuiteResult → Bytes
json_report suites = compact_text (report_tree suites) ++ line_break

-- ---- for private clauses: the tokens of what may be absent

abbrev pub difference_tokens : Option (String Global) → List Token
difference_tokens None = []
difference_tokens (Some difference) = key (codes "difference") ∷ string (string_bytes difference) ∷ []

abbrev pub lacking_tokens : Option (Vec (String Global) Global) → List Token
lacking_tokens None = []
lacking_tokens (Some lacking) = key (codes "notCovered") ∷ tree_tokens (texts_tree lacking.items)
