-- Worked examples of the spelling of choice rules.
use Rattle.std.specs.Prelude.{◌≡◌, ℕ, pos, List, [], ◌∷◌, map, true, false, Option, Some, None, option_map, option_and_then, codes, refl}
use Rattle.serde_json.specs.Read.{read}
use Rattle.serde_json.proofs.OnLiterals.{serde_json_on_literals}
use Rattle.asl_model.specs.Tree.{Text, Integer}
use Rattle.asl_model.specs.Path.{Name}
use Rattle.asl_model.specs.Test.{Equals, LessThan, GreaterThan, LessThanEquals, GreaterThanEquals, StringIs, NumericIs, BooleanEquals, Constant, AtPath, NullKind, NumericKind, StringKind, BooleanKind, ByteOf, Star, And, Or, Not, Compare, StringMatches, IsOfKind, IsPresent, NoTests, AndTest, Rule}
use Rattle.asl_model.specs.Json.{tree_of}
use Rattle.asl_model.specs.RuleSpelling.{operator_named, WithValue, WithPath, Matching, OfKind, Presence, rule_of, rule_faults, RuleFault, NotARule, UnknownOperator, BadOperand, BadPath, BadPattern, EmptyList, NextInside}

rule_in : List ℕ → Option Rule
rule_in text = option_and_then rule_of (option_and_then tree_of (read text))

faults_in : List ℕ → Option (List RuleFault)
faults_in text = option_map rule_faults (option_and_then tree_of (read text))

and_of_two : rule_in (codes "{\"And\":[{\"Variable\":\"$.k\",\"IsPresent\":true},{\"Variable\":\"$.k\",\"StringEquals\":\"x\"}],\"Next\":\"B\"}") ≡ Some (record { test = And (AndTest (IsPresent (Name (codes "k") ∷ []) true) (AndTest (Compare (Name (codes "k") ∷ []) (StringIs Equals) (Constant (Text (codes "x")))) NoTests)); next = codes "B" })
unfolding serde_json_on_literals rule_in
and_of_two = refl

a_number : rule_in (codes "{\"Variable\":\"$.k\",\"NumericLessThan\":0,\"Next\":\"B\",\"Comment\":\"c\"}") ≡ Some (record { test = Compare (Name (codes "k") ∷ []) (NumericIs LessThan) (Constant (Integer (pos 0))); next = codes "B" })
unfolding serde_json_on_literals rule_in
a_number = refl

with_a_path : rule_in (codes "{\"Variable\":\"$.k\",\"NumericGreaterThanEqualsPath\":\"$\",\"Next\":\"B\"}") ≡ Some (record { test = Compare (Name (codes "k") ∷ []) (NumericIs GreaterThanEquals) (AtPath []); next = codes "B" })
unfolding serde_json_on_literals rule_in
with_a_path = refl

booleans_with_a_path : rule_in (codes "{\"Variable\":\"$.k\",\"BooleanEqualsPath\":\"$.k\",\"Next\":\"B\"}") ≡ Some (record { test = Compare (Name (codes "k") ∷ []) BooleanEquals (AtPath (Name (codes "k") ∷ [])); next = codes "B" })
unfolding serde_json_on_literals rule_in
booleans_with_a_path = refl

not_null : rule_in (codes "{\"Not\":{\"Variable\":\"$.k\",\"IsNull\":false},\"Next\":\"B\"}") ≡ Some (record { test = Not (IsOfKind (Name (codes "k") ∷ []) NullKind false); next = codes "B" })
unfolding serde_json_on_literals rule_in
not_null = refl

or_of_one : rule_in (codes "{\"Or\":[{\"Variable\":\"$.k\",\"IsNull\":true}],\"Next\":\"B\"}") ≡ Some (record { test = Or (AndTest (IsOfKind (Name (codes "k") ∷ []) NullKind true) NoTests); next = codes "B" })
unfolding serde_json_on_literals rule_in
or_of_one = refl

a_pattern : rule_in (codes "{\"Variable\":\"$.k\",\"StringMatches\":\"a\\\\*b*\",\"Next\":\"B\"}") ≡ Some (record { test = StringMatches (Name (codes "k") ∷ []) (ByteOf 97 ∷ ByteOf 42 ∷ ByteOf 98 ∷ Star ∷ []); next = codes "B" })
unfolding serde_json_on_literals rule_in
a_pattern = refl

empty_rule : faults_in (codes "{}") ≡ Some (NotARule ∷ NotARule ∷ [])
unfolding serde_json_on_literals faults_in
empty_rule = refl

no_next : faults_in (codes "{\"Variable\":\"$\",\"IsNull\":true}") ≡ Some (NotARule ∷ [])
unfolding serde_json_on_literals faults_in
no_next = refl

next_no_text : faults_in (codes "{\"Variable\":\"$\",\"IsNull\":true,\"Next\":7}") ≡ Some (NotARule ∷ [])
unfolding serde_json_on_literals faults_in
next_no_text = refl

variable_alone : faults_in (codes "{\"Variable\":\"$\",\"Next\":\"B\"}") ≡ Some (NotARule ∷ [])
unfolding serde_json_on_literals faults_in
variable_alone = refl

variable_no_text : faults_in (codes "{\"Variable\":7,\"IsNull\":true,\"Next\":\"B\"}") ≡ Some (NotARule ∷ [])
unfolding serde_json_on_literals faults_in
variable_no_text = refl

two_operators : faults_in (codes "{\"Variable\":\"$\",\"IsNull\":true,\"IsString\":true,\"Next\":\"B\"}") ≡ Some (NotARule ∷ [])
unfolding serde_json_on_literals faults_in
two_operators = refl

and_beside_variable : faults_in (codes "{\"Variable\":\"$\",\"And\":[],\"Next\":\"B\"}") ≡ Some (UnknownOperator ∷ [])
unfolding serde_json_on_literals faults_in
and_beside_variable = refl

matches_path : faults_in (codes "{\"Variable\":\"$\",\"StringMatchesPath\":\"$\",\"Next\":\"B\"}") ≡ Some (UnknownOperator ∷ [])
unfolding serde_json_on_literals faults_in
matches_path = refl

null_path : faults_in (codes "{\"Variable\":\"$\",\"IsNullPath\":\"$\",\"Next\":\"B\"}") ≡ Some (UnknownOperator ∷ [])
unfolding serde_json_on_literals faults_in
null_path = refl

text_as_number : faults_in (codes "{\"Variable\":\"$\",\"NumericEquals\":\"1\",\"Next\":\"B\"}") ≡ Some (BadOperand ∷ [])
unfolding serde_json_on_literals faults_in
text_as_number = refl

text_as_truth : faults_in (codes "{\"Variable\":\"$\",\"IsPresent\":\"true\",\"Next\":\"B\"}") ≡ Some (BadOperand ∷ [])
unfolding serde_json_on_literals faults_in
text_as_truth = refl

bad_variable : faults_in (codes "{\"Variable\":\"$$.x\",\"IsNull\":true,\"Next\":\"B\"}") ≡ Some (BadPath ∷ [])
unfolding serde_json_on_literals faults_in
bad_variable = refl

bad_operand_path : faults_in (codes "{\"Variable\":\"$\",\"StringEqualsPath\":\"a\",\"Next\":\"B\"}") ≡ Some (BadPath ∷ [])
unfolding serde_json_on_literals faults_in
bad_operand_path = refl

bad_escape : faults_in (codes "{\"Variable\":\"$\",\"StringMatches\":\"\\\\n\",\"Next\":\"B\"}") ≡ Some (BadPattern ∷ [])
unfolding serde_json_on_literals faults_in
bad_escape = refl

lone_backslash : faults_in (codes "{\"Variable\":\"$\",\"StringMatches\":\"a\\\\\",\"Next\":\"B\"}") ≡ Some (BadPattern ∷ [])
unfolding serde_json_on_literals faults_in
lone_backslash = refl

empty_and : faults_in (codes "{\"And\":[],\"Next\":\"B\"}") ≡ Some (EmptyList ∷ [])
unfolding serde_json_on_literals faults_in
empty_and = refl

next_inside : faults_in (codes "{\"Not\":{\"Variable\":\"$\",\"IsNull\":true,\"Next\":\"B\"},\"Next\":\"B\"}") ≡ Some (NextInside ∷ [])
unfolding serde_json_on_literals faults_in
next_inside = refl

comment_inside : faults_in (codes "{\"Not\":{\"Variable\":\"$\",\"IsNull\":true,\"Comment\":\"c\"},\"Next\":\"B\"}") ≡ Some (NotARule ∷ [])
unfolding serde_json_on_literals faults_in
comment_inside = refl

and_no_list : faults_in (codes "{\"And\":{},\"Next\":\"B\"}") ≡ Some (NotARule ∷ [])
unfolding serde_json_on_literals faults_in
and_no_list = refl

and_and_or : faults_in (codes "{\"And\":[{\"Variable\":\"$\",\"IsNull\":true}],\"Or\":[{\"Variable\":\"$\",\"IsNull\":true}],\"Next\":\"B\"}") ≡ Some (NotARule ∷ [])
unfolding serde_json_on_literals faults_in
and_and_or = refl

no_object : faults_in (codes "7") ≡ Some (NotARule ∷ [])
unfolding serde_json_on_literals faults_in
no_object = refl

-- every operator by its name
operators : map operator_named (codes "StringEquals" ∷ codes "StringLessThan" ∷ codes "StringGreaterThan" ∷ codes "StringLessThanEquals" ∷ codes "StringGreaterThanEquals" ∷ codes "NumericEquals" ∷ codes "NumericLessThan" ∷ codes "NumericGreaterThan" ∷ codes "NumericLessThanEquals" ∷ codes "NumericGreaterThanEquals" ∷ codes "BooleanEquals" ∷ codes "StringMatches" ∷ codes "IsPresent" ∷ [])
    ≡ Some (WithValue (StringIs Equals)) ∷ Some (WithValue (StringIs LessThan)) ∷ Some (WithValue (StringIs GreaterThan)) ∷ Some (WithValue (StringIs LessThanEquals)) ∷ Some (WithValue (StringIs GreaterThanEquals)) ∷ Some (WithValue (NumericIs Equals)) ∷ Some (WithValue (NumericIs LessThan)) ∷ Some (WithValue (NumericIs GreaterThan)) ∷ Some (WithValue (NumericIs LessThanEquals)) ∷ Some (WithValue (NumericIs GreaterThanEquals)) ∷ Some (WithValue BooleanEquals) ∷ Some Matching ∷ Some Presence ∷ []
operators = refl

kinds_and_others : map operator_named (codes "IsNull" ∷ codes "IsNumeric" ∷ codes "IsString" ∷ codes "IsBoolean" ∷ codes "IsTimestamp" ∷ codes "TimestampEquals" ∷ codes "BooleanLessThan" ∷ codes "StringEqualsPath" ∷ [])
    ≡ Some (OfKind NullKind) ∷ Some (OfKind NumericKind) ∷ Some (OfKind StringKind) ∷ Some (OfKind BooleanKind) ∷ None ∷ None ∷ None ∷ Some (WithPath (StringIs Equals)) ∷ []
kinds_and_others = refl
