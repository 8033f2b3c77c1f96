-- What is told of the fields of objects and of the elements of lists, one after another.
use Rattle.std.proofs.Common.{◌≡◌, ℕ, ◌+◌, ◌<◌, List, [], ◌∷◌, ◌++◌, length, drop, get_or, append-nil, Option, Some, None, is_some, option_and_then, true, false, codes, refl, sym, ap, ◌∙◌}
use Rattle.std.specs.List.{cons_option}
use Rattle.serde_json.specs.Data as json
use Rattle.serde_json.specs.Data.{Data}
use Rattle.serde_json.specs.Find.{as_object}
use Rattle.serde_json.specs.View.{view, items_view}
use Rattle.serde_json.specs.declared.value.Value.{Value}
use Rattle.asl_model.specs.DefinitionTable as model
use Rattle.asl_model.specs.Json.{tree_of}
use Rattle.asl_model.specs.RuleSpelling.{rule_of}
use Rattle.asl_model.specs.Test.{Rule}
use Rattle.asl_model.specs.StandsFor.{Place, members_in, complaint_at, fields_complaints, element_complaints, target_complaints, rules_complaints}
use Rattle.asl_fields.specs.Reading.{rules_among}
use Rattle.asl_machine.specs.Telling.{rule_spelled}
use Rattle.asl_machine.proofs.Values.{items_parts}

by_rule : (place : Place) (names : List (List ℕ)) (o : Option Rule) (rest : List Rule) → rules_complaints place names (cons_option o rest) ≡ rules_complaints place names (cons_option o []) ++ rules_complaints place names rest
by_rule place names None rest = refl
by_rule place names (Some rule) rest = ap (λ cs. cs ++ rules_complaints place names rest) (sym (append-nil (target_complaints place names (codes "Choices") (Some rule.next))))

-- the elements left of `Choices` are the first of them and those behind it
pub rules_split : (place : Place) (names : List (List ℕ)) (vs : List Value) (i : ℕ) (x : Value) → i < length vs → x ≡ get_or vs i x
    → rules_complaints place names (rules_among (items_view (drop i vs))) ≡ rules_complaints place names (rule_spelled (view x)) ++ rules_complaints place names (rules_among (items_view (drop (i + 1) vs)))
rules_split place names vs i x h e =
    items_parts (λ left. rules_complaints place names (rules_among left)) _ vs i x h e refl ∙ by_rule place names (option_and_then rule_of (tree_of (view x))) (rules_among (items_view (drop (i + 1) vs)))

-- what an element that is a rule tells
pub rule_told : (place : Place) (names : List (List ℕ)) (v : Data) (rule : Rule) → option_and_then rule_of (tree_of v) ≡ Some rule → target_complaints place names (codes "Choices") (Some rule.next) ≡ rules_complaints place names (rule_spelled v)
rule_told place names v rule e = sym (ap (λ o. rules_complaints place names (cons_option o [])) e ∙ append-nil (target_complaints place names (codes "Choices") (Some rule.next)))

-- what is wrong with an element that is an object
pub element_is_object : (place : Place) (field : List ℕ) (rows : List model.Row) (v : Data) → is_some (as_object v) ≡ true → fields_complaints place rows (members_in v) ≡ element_complaints place field rows v
element_is_object place field rows json.null h = absurd (cc)
element_is_object place field rows (json.boolean b) h = absurd (cc)
element_is_object place field rows (json.number n) h = absurd (cc)
element_is_object place field rows (json.string s) h = absurd (cc)
element_is_object place field rows (json.array vs) h = absurd (cc)
element_is_object place field rows (json.object ms) h = refl

-- with one that is none
pub element_is_none : (place : Place) (field : List ℕ) (rows : List model.Row) (v : Data) → is_some (as_object v) ≡ false → complaint_at place field (model.wrong_kind v) ∷ [] ≡ element_complaints place field rows v
element_is_none place field rows json.null h = refl
element_is_none place field rows (json.boolean b) h = refl
element_is_none place field rows (json.number n) h = refl
element_is_none place field rows (json.string s) h = refl
element_is_none place field rows (json.array vs) h = refl
element_is_none place field rows (json.object ms) h = absurd (cc)
