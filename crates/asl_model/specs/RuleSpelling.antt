-- How the rules of a Choice are spelled (States Language, "Choice State"). A rule is `And` or `Or` with a list of
-- rules, `Not` with one, or `Variable` with exactly one operator. At the top it has `Next`, and may have a `Comment`.
-- The profile chooses: an escape in a pattern other than `\*` and `\\` is refused. Every tree has here a test, with
-- defaults where something is wrong, and a list of all that is wrong with it.
use Rattle.std.specs.Prelude.{◌≡◌, ◌-◌, ℕ, List, [], ◌∷◌, ◌++◌, length, take, drop, ◌==◌, ◌||◌}
use Rattle.std.specs.Prelude.{Bool, true, false, is_some, if◌then◌else◌, Option, Some, None}
use Rattle.std.specs.Prelude.{option_map, option_and_then, Result, Ok, Err, bytes_eq, codes}
use Rattle.std.specs.Option.{unwrap_or}
use Rattle.std.specs.List.{Contains}
use Rattle.asl_model.specs.Tree.{Tree, Null, Boolean, Integer, Text, Array, Object, Trees}
use Rattle.asl_model.specs.Tree.{NoTrees, AndTree, Fields, NoFields, AndField, field_named}
use Rattle.asl_model.specs.Path.{Segment}
use Rattle.asl_model.specs.Test.{Relation, Equals, LessThan, GreaterThan, LessThanEquals, GreaterThanEquals}
use Rattle.asl_model.specs.Test.{Comparison, StringIs, NumericIs, BooleanEquals, Constant, AtPath, ValueKind}
use Rattle.asl_model.specs.Test.{NullKind, NumericKind, StringKind, BooleanKind, PatternPart, ByteOf, Star}
use Rattle.asl_model.specs.Test.{Test, And, Or, Not, Compare, StringMatches, IsOfKind, IsPresent, Tests}
use Rattle.asl_model.specs.Test.{NoTests, AndTest, Rule, as_text, as_integer, as_boolean}
use Rattle.asl_model.specs.PathSpelling.{path_of}
use Rattle.asl_model.specs.CallSpelling.{behind}

-- what can be wrong with a rule
pub data RuleFault : Type 0 where
  NotARule : RuleFault
  UnknownOperator : RuleFault
  -- a value of a wrong kind behind an operator
  BadOperand : RuleFault
  BadPath : RuleFault
  BadPattern : RuleFault
  EmptyList : RuleFault
  -- `Next` below the top
  NextInside : RuleFault

-- ---- operators

-- what a comparison operator of a rule looks for
pub data Operator : Type 0 where
  -- with a value; with a path to one
  WithValue : Comparison → Operator
  WithPath : Comparison → Operator
  Matching : Operator
  OfKind : ValueKind → Operator
  Presence : Operator

-- the relation that ends an operator's name
abbrev pub relation_named : List ℕ → Option Relation
relation_named n =
    if bytes_eq n (codes "Equals") then Some Equals else
    (if bytes_eq n (codes "LessThan") then Some LessThan else
    (if bytes_eq n (codes "GreaterThan") then Some GreaterThan else
    (if bytes_eq n (codes "LessThanEquals") then Some LessThanEquals else
    (if bytes_eq n (codes "GreaterThanEquals") then Some GreaterThanEquals else None))))

-- the first that is there
abbrev pub or_else : {A : Type 0} → Option A → Option A → Option A
or_else None b = b
or_else (Some a) b = Some a

-- `String` and `Numeric` before each relation, and `BooleanEquals`
abbrev pub comparison_named : List ℕ → Option Comparison
comparison_named n =
    or_else (option_map StringIs (option_and_then relation_named (behind (codes "String") n)))
    (or_else (option_map NumericIs (option_and_then relation_named (behind (codes "Numeric") n)))
    (if bytes_eq n (codes "BooleanEquals") then Some BooleanEquals else None))

-- a comparison with `Path` at its end
abbrev pub path_comparison_named : List ℕ → Option Comparison
path_comparison_named n =
    if bytes_eq (drop (length n - 4) n) (codes "Path") then comparison_named (take (length n - 4) n) else None

-- the kind that an operator asks for
abbrev pub kind_named : List ℕ → Option ValueKind
kind_named n =
    if bytes_eq n (codes "IsNull") then Some NullKind else
    (if bytes_eq n (codes "IsNumeric") then Some NumericKind else
    (if bytes_eq n (codes "IsString") then Some StringKind else
    (if bytes_eq n (codes "IsBoolean") then Some BooleanKind else None)))

-- the operator of that name
abbrev pub operator_named : List ℕ → Option Operator
operator_named n =
    or_else (option_map WithValue (comparison_named n))
    (or_else (option_map WithPath (path_comparison_named n))
    (or_else (option_map OfKind (kind_named n))
    (if bytes_eq n (codes "StringMatches") then Some Matching else
    (if bytes_eq n (codes "IsPresent") then Some Presence else None))))

-- ---- operands

-- a pattern: `*` is a star, a backslash stands before a star or a backslash that is itself
abbrev pub pattern_of : List ℕ → Option (List PatternPart)
pattern_of [] = Some []
pattern_of (x ∷ []) = if x == 92 then None else (if x == 42 then Some (Star ∷ []) else Some (ByteOf x ∷ []))
pattern_of (x ∷ y ∷ rest) =
    elim (x == 92) [
      | true ↦ elim (y == 42 || y == 92)
          [ true ↦ option_map (λ parts. ByteOf y ∷ parts) (pattern_of rest) | false ↦ None ]
      | false ↦ option_map (λ parts. (if x == 42 then Star else ByteOf x) ∷ parts) (pattern_of (y ∷ rest))
    ]

-- the value is one that the comparison compares
abbrev pub is_comparable : Comparison → Tree → Bool
is_comparable (StringIs relation) t = is_some (as_text t)
is_comparable (NumericIs relation) t = is_some (as_integer t)
is_comparable BooleanEquals t = is_some (as_boolean t)

-- what a function gives where there is something, or else that fault
abbrev pub given_or : {A : Type 0} → RuleFault → (A → Result Test RuleFault) → Option A → Result Test RuleFault
given_or fault f None = Err fault
given_or fault f (Some a) = f a

-- the test of an operator and its operand on the value at a path
abbrev pub operator_test : List Segment → Operator → Tree → Result Test RuleFault
operator_test p (WithValue comparison) t =
    if is_comparable comparison t then Ok (Compare p comparison (Constant t)) else Err BadOperand
operator_test p (WithPath comparison) t =
    given_or BadOperand (λ s. given_or BadPath (λ q. Ok (Compare p comparison (AtPath q))) (path_of s)) (as_text t)
operator_test p Matching t =
    given_or BadOperand (λ s. given_or BadPattern (λ parts. Ok (StringMatches p parts)) (pattern_of s)) (as_text t)
operator_test p (OfKind kind) t = given_or BadOperand (λ b. Ok (IsOfKind p kind b)) (as_boolean t)
operator_test p Presence t = given_or BadOperand (λ b. Ok (IsPresent p b)) (as_boolean t)

-- the same for an operator by its name
abbrev pub named_test : List Segment → List ℕ → Tree → Result Test RuleFault
named_test p n t = given_or UnknownOperator (λ operator. operator_test p operator t) (operator_named n)

-- ---- the fields of a rule

-- the fields but `Variable`, `Next` and `Comment`
abbrev pub main_fields : Fields → List (List ℕ × Tree)
main_fields NoFields = []
main_fields (AndField n t fs) =
    if bytes_eq n (codes "Variable") || (bytes_eq n (codes "Next") || bytes_eq n (codes "Comment")) then main_fields fs
    else (n, t) ∷ main_fields fs

-- the path in `Variable`
abbrev pub variable_in : Fields → Option (List Segment)
variable_in fs = option_and_then path_of (option_and_then as_text (field_named (codes "Variable") fs))

-- a test that is always true
abbrev pub no_test : Test
no_test = And NoTests

-- the test, or the one that is always true where there is a fault
abbrev pub test_or_none : Result Test RuleFault → Test
test_or_none (Ok test) = test
test_or_none (Err fault) = no_test

-- the test of the first operator beside `Variable`
abbrev pub first_test : List Segment → List (List ℕ × Tree) → Test
first_test p [] = no_test
first_test p (f ∷ fs) = test_or_none (named_test p f.0 f.1)

-- the fault, where there is one
abbrev pub fault_of : Result Test RuleFault → List RuleFault
fault_of (Ok test) = []
fault_of (Err fault) = fault ∷ []

-- what is wrong with each of these operators and its value
abbrev pub operator_faults : List Segment → List (List ℕ × Tree) → List RuleFault
operator_faults p [] = []
operator_faults p (f ∷ fs) = fault_of (named_test p f.0 f.1) ++ operator_faults p fs

-- there is exactly one
abbrev pub one_faults : List (List ℕ × Tree) → List RuleFault
one_faults [] = NotARule ∷ []
one_faults (f ∷ []) = []
one_faults (f ∷ g ∷ fs) = NotARule ∷ []

-- `Variable` is a reference path
abbrev pub variable_path_faults : Option (List ℕ) → List RuleFault
variable_path_faults None = NotARule ∷ []
variable_path_faults (Some s) = if is_some (path_of s) then [] else BadPath ∷ []

-- what is wrong with a rule that has `Variable`
abbrev pub variable_faults : Tree → Fields → List RuleFault
variable_faults t fs =
    variable_path_faults (as_text t)
    ++ (one_faults (main_fields fs) ++ operator_faults (unwrap_or (variable_in fs) []) (main_fields fs))

-- what is wrong with one that hasn't: it has exactly one of `And`, `Or` and `Not`, with these faults
abbrev pub joined_faults : List (List ℕ × Tree) → List RuleFault → List RuleFault → List RuleFault → List RuleFault
joined_faults [] ands ors nots = NotARule ∷ []
joined_faults (f ∷ g ∷ fs) ands ors nots = NotARule ∷ []
joined_faults (f ∷ []) ands ors nots =
    if bytes_eq f.0 (codes "And") then ands else
    (if bytes_eq f.0 (codes "Or") then ors else
    (if bytes_eq f.0 (codes "Not") then nots else NotARule ∷ []))

-- what is wrong with a rule, with `Variable` and without
abbrev pub test_faults : Option Tree → Fields → List RuleFault → List RuleFault → List RuleFault → List RuleFault
test_faults None fs ands ors nots = joined_faults (main_fields fs) ands ors nots
test_faults (Some t) fs ands ors nots = variable_faults t fs

-- the test, for what `And`, `Or` and `Not` hold
abbrev pub test_by : Fields → Tests → Tests → Test → Test
test_by fs ands ors inner =
    if is_some (field_named (codes "Variable") fs) then first_test (unwrap_or (variable_in fs) []) (main_fields fs) else
    (if is_some (field_named (codes "And") fs) then And ands else
    (if is_some (field_named (codes "Or") fs) then Or ors else Not inner))

-- `Next` and `Comment` don't stand below the top
abbrev pub inner_faults : Fields → List RuleFault
inner_faults fs =
    (if is_some (field_named (codes "Next") fs) then NextInside ∷ [] else [])
    ++ (if is_some (field_named (codes "Comment") fs) then NotARule ∷ [] else [])

-- at the top `Next` is a text, and `Comment` where it is there
abbrev pub text_faults : Bool → Option Tree → List RuleFault
text_faults required None = if required then NotARule ∷ [] else []
text_faults required (Some t) = if is_some (as_text t) then [] else NotARule ∷ []

-- what is wrong with `Next` and `Comment` at the top
abbrev pub top_faults : Fields → List RuleFault
top_faults fs = text_faults true (field_named (codes "Next") fs) ++ text_faults false (field_named (codes "Comment") fs)

-- ---- tests

abbrev mutual
  -- the test that a tree spells
  pub test_of : Tree → Test
  test_of Null = no_test
  test_of (Boolean b) = no_test
  test_of (Integer n) = no_test
  test_of (Text s) = no_test
  test_of (Array ts) = no_test
  test_of (Object fs) =
      test_by fs (tests_under (codes "And") fs) (tests_under (codes "Or") fs) (test_under (codes "Not") fs)

  -- the test in the field of that name
  pub test_under : List ℕ → Fields → Test
  test_under n NoFields = no_test
  test_under n (AndField m t fs) = elim (bytes_eq m n) [ true ↦ test_of t | false ↦ test_under n fs ]

  -- the tests in the list under that name
  pub tests_under : List ℕ → Fields → Tests
  tests_under n NoFields = NoTests
  tests_under n (AndField m t fs) = elim (bytes_eq m n) [ true ↦ tests_of t | false ↦ tests_under n fs ]

  -- the tests of a list
  pub tests_of : Tree → Tests
  tests_of Null = NoTests
  tests_of (Boolean b) = NoTests
  tests_of (Integer n) = NoTests
  tests_of (Text s) = NoTests
  tests_of (Array ts) = each_test ts
  tests_of (Object fs) = NoTests

  -- the test of each element
  pub each_test : Trees → Tests
  each_test NoTrees = NoTests
  each_test (AndTree t ts) = AndTest (test_of t) (each_test ts)

-- a list of tests has an element
abbrev pub some_element : Trees → List RuleFault
some_element NoTrees = EmptyList ∷ []
some_element (AndTree t ts) = []

abbrev mutual
  -- what is wrong with a tree as a rule below the top
  pub nested_faults : Tree → List RuleFault
  nested_faults Null = NotARule ∷ []
  nested_faults (Boolean b) = NotARule ∷ []
  nested_faults (Integer n) = NotARule ∷ []
  nested_faults (Text s) = NotARule ∷ []
  nested_faults (Array ts) = NotARule ∷ []
  nested_faults (Object fs) = inner_faults fs ++ object_faults fs

  -- with its test
  pub object_faults : Fields → List RuleFault
  object_faults NoFields = NotARule ∷ []
  object_faults (AndField n t fs) =
      test_faults (field_named (codes "Variable") (AndField n t fs)) (AndField n t fs)
      (elim (bytes_eq n (codes "And")) [ true ↦ list_faults t | false ↦ list_faults_under (codes "And") fs ])
      (elim (bytes_eq n (codes "Or")) [ true ↦ list_faults t | false ↦ list_faults_under (codes "Or") fs ])
      (elim (bytes_eq n (codes "Not")) [ true ↦ nested_faults t | false ↦ nested_faults_under (codes "Not") fs ])

  -- what is wrong with the test in the field of that name
  pub nested_faults_under : List ℕ → Fields → List RuleFault
  nested_faults_under n NoFields = []
  nested_faults_under n (AndField m t fs) =
      elim (bytes_eq m n) [ true ↦ nested_faults t | false ↦ nested_faults_under n fs ]

  -- what is wrong with the list of tests in the field of that name
  pub list_faults_under : List ℕ → Fields → List RuleFault
  list_faults_under n NoFields = []
  list_faults_under n (AndField m t fs) = elim (bytes_eq m n) [ true ↦ list_faults t | false ↦ list_faults_under n fs ]

  -- a list of rules, not empty
  pub list_faults : Tree → List RuleFault
  list_faults Null = NotARule ∷ []
  list_faults (Boolean b) = NotARule ∷ []
  list_faults (Integer n) = NotARule ∷ []
  list_faults (Text s) = NotARule ∷ []
  list_faults (Array ts) = some_element ts ++ each_faults ts
  list_faults (Object fs) = NotARule ∷ []

  -- what is wrong with each element
  pub each_faults : Trees → List RuleFault
  each_faults NoTrees = []
  each_faults (AndTree t ts) = nested_faults t ++ each_faults ts

-- ---- rules

-- all that is wrong with a tree as a rule
abbrev pub rule_faults : Tree → List RuleFault
rule_faults Null = NotARule ∷ []
rule_faults (Boolean b) = NotARule ∷ []
rule_faults (Integer n) = NotARule ∷ []
rule_faults (Text s) = NotARule ∷ []
rule_faults (Array ts) = NotARule ∷ []
rule_faults (Object fs) = top_faults fs ++ object_faults fs

-- the text in `Next`
abbrev pub next_of : Tree → List ℕ
next_of Null = []
next_of (Boolean b) = []
next_of (Integer n) = []
next_of (Text s) = []
next_of (Array ts) = []
next_of (Object fs) = unwrap_or (option_and_then as_text (field_named (codes "Next") fs)) []

-- the rule that a tree without a fault spells
abbrev pub rule_from : Tree → Rule
rule_from t = record { test = test_of t; next = next_of t }

-- there is no fault
abbrev pub none_among : List RuleFault → Bool
none_among [] = true
none_among (fault ∷ further) = false

-- the rule that a tree spells
abbrev pub rule_of : Tree → Option Rule
rule_of t = if none_among (rule_faults t) then Some (rule_from t) else None

-- the tree spells the rule
pub record SpellsRule (t : Tree) (rule : Rule) : Type 0 where
  pub none_wrong : rule_faults t ≡ []
  pub same : rule_from t ≡ rule

-- that is wrong with the tree
pub record HasRuleFault (t : Tree) (f : RuleFault) : Type 0 where
  pub listed : Contains (rule_faults t) f
