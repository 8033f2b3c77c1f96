-- The grammar of a Choice's rules (States Language, "Choice State"): which tree stands for which rule, a case for each
-- rule of the language. The functions that read rules are those of RuleSpelling, and give exactly this.
use Rattle.std.specs.Prelude.{◌≡◌, ◌≢◌, ℕ, ℤ, List, [], ◌∷◌, ◌++◌, Bool, Option, Some, None, codes}
use Rattle.asl_model.specs.Tree.{Tree, Boolean, Integer, Text, Array, Object, Trees, NoTrees}
use Rattle.asl_model.specs.Tree.{AndTree, Fields, NoFields, AndField, field_named}
use Rattle.asl_model.specs.Path.{Segment}
use Rattle.asl_model.specs.PathSpelling.{Spells}
use Rattle.asl_model.specs.Test.{Relation, Equals, LessThan, GreaterThan, LessThanEquals, GreaterThanEquals, Comparison}
use Rattle.asl_model.specs.Test.{StringIs, NumericIs, BooleanEquals, Constant, AtPath, ValueKind, NullKind, NumericKind}
use Rattle.asl_model.specs.Test.{StringKind, BooleanKind, PatternPart, ByteOf, Star, Test, And, Or, Not, Compare}
use Rattle.asl_model.specs.Test.{StringMatches, IsOfKind, IsPresent, Tests, NoTests, AndTest, Rule}

-- ---- operators

-- what ends the name of a comparison
pub data NamesRelation : List ℕ → Relation → Type 0 where
  names_equals : NamesRelation (codes "Equals") Equals
  names_less_than : NamesRelation (codes "LessThan") LessThan
  names_greater_than : NamesRelation (codes "GreaterThan") GreaterThan
  names_less_than_equals : NamesRelation (codes "LessThanEquals") LessThanEquals
  names_greater_than_equals : NamesRelation (codes "GreaterThanEquals") GreaterThanEquals

-- `StringEquals` and so on, the same with `Numeric`, and `BooleanEquals`
pub data NamesComparison : List ℕ → Comparison → Type 0 where
  names_string : {n : List ℕ} {relation : Relation} → NamesRelation n relation
      → NamesComparison (codes "String" ++ n) (StringIs relation)
  names_numeric : {n : List ℕ} {relation : Relation} → NamesRelation n relation
      → NamesComparison (codes "Numeric" ++ n) (NumericIs relation)
  names_boolean : NamesComparison (codes "BooleanEquals") BooleanEquals

-- `IsNull`, `IsNumeric`, `IsString`, `IsBoolean`
pub data NamesKind : List ℕ → ValueKind → Type 0 where
  names_null : NamesKind (codes "IsNull") NullKind
  names_number : NamesKind (codes "IsNumeric") NumericKind
  names_text : NamesKind (codes "IsString") StringKind
  names_truth : NamesKind (codes "IsBoolean") BooleanKind

-- a value of the kind that the comparison compares
pub data IsOperandOf : Comparison → Tree → Type 0 where
  text_operand : {relation : Relation} {s : List ℕ} → IsOperandOf (StringIs relation) (Text s)
  number_operand : {relation : Relation} {n : ℤ} → IsOperandOf (NumericIs relation) (Integer n)
  truth_operand : {b : Bool} → IsOperandOf BooleanEquals (Boolean b)

-- a pattern: `*` is a star, `\*` and `\\` are a star and a backslash that stand for themselves, and so does any other
-- byte but a backslash
pub data SpellsPattern : List ℕ → List PatternPart → Type 0 where
  pattern_is_over : SpellsPattern [] []
  star_in_pattern : {text : List ℕ} {parts : List PatternPart} → SpellsPattern text parts
      → SpellsPattern (42 ∷ text) (Star ∷ parts)
  escaped_star : {text : List ℕ} {parts : List PatternPart} → SpellsPattern text parts
      → SpellsPattern (92 ∷ 42 ∷ text) (ByteOf 42 ∷ parts)
  escaped_backslash : {text : List ℕ} {parts : List PatternPart} → SpellsPattern text parts
      → SpellsPattern (92 ∷ 92 ∷ text) (ByteOf 92 ∷ parts)
  byte_in_pattern : {b : ℕ} {text : List ℕ} {parts : List PatternPart} → b ≢ 42 → b ≢ 92 → SpellsPattern text parts
      → SpellsPattern (b ∷ text) (ByteOf b ∷ parts)

-- what an operator of that name, with that value, tests of what the path names
pub data SpellsOperator (p : List Segment) : List ℕ → Tree → Test → Type 0 where
  spells_comparison : {n : List ℕ} {comparison : Comparison} {t : Tree} → NamesComparison n comparison
      → IsOperandOf comparison t → SpellsOperator p n t (Compare p comparison (Constant t))
  spells_path_comparison : {n s : List ℕ} {comparison : Comparison} {q : List Segment} → NamesComparison n comparison
      → Spells s q → SpellsOperator p (n ++ codes "Path") (Text s) (Compare p comparison (AtPath q))
  spells_match : {s : List ℕ} {parts : List PatternPart} → SpellsPattern s parts
      → SpellsOperator p (codes "StringMatches") (Text s) (StringMatches p parts)
  spells_kind : {n : List ℕ} {kind : ValueKind} {b : Bool} → NamesKind n kind
      → SpellsOperator p n (Boolean b) (IsOfKind p kind b)
  spells_presence : {b : Bool} → SpellsOperator p (codes "IsPresent") (Boolean b) (IsPresent p b)

-- ---- the fields of a rule

-- the names that may stand beside an operator
pub data IsBeside : List ℕ → Type 0 where
  variable_is_beside : IsBeside (codes "Variable")
  next_is_beside : IsBeside (codes "Next")
  comment_is_beside : IsBeside (codes "Comment")

-- no field has another name
pub data HasNoOther : Fields → Type 0 where
  has_no_field : HasNoOther NoFields
  has_one_beside : {n : List ℕ} {t : Tree} {fs : Fields} → IsBeside n → HasNoOther fs → HasNoOther (AndField n t fs)

-- exactly that field has another name
pub data HasOnly (n : List ℕ) (t : Tree) : Fields → Type 0 where
  only_is_first : {fs : Fields} → (IsBeside n → ⊥) → HasNoOther fs → HasOnly n t (AndField n t fs)
  only_is_later : {m : List ℕ} {u : Tree} {fs : Fields} → IsBeside m → HasOnly n t fs → HasOnly n t (AndField m u fs)

mutual
  -- the fields stand for a test: `And` or `Or` with a list of rules, or `Not` with one, without `Variable`; or
  -- `Variable` with a path, and one operator
  pub data StandsForTest : Fields → Test → Type 0 where
    stands_for_and : {fs : Fields} {ts : Trees} {tests : Tests} → field_named (codes "Variable") fs ≡ None
        → HasOnly (codes "And") (Array ts) fs → StandForTests ts tests → StandsForTest fs (And tests)
    stands_for_or : {fs : Fields} {ts : Trees} {tests : Tests} → field_named (codes "Variable") fs ≡ None
        → HasOnly (codes "Or") (Array ts) fs → StandForTests ts tests → StandsForTest fs (Or tests)
    stands_for_not : {fs inside : Fields} {test : Test} → field_named (codes "Variable") fs ≡ None
        → HasOnly (codes "Not") (Object inside) fs → StandsInside inside test → StandsForTest fs (Not test)
    stands_for_operator : {fs : Fields} {s n : List ℕ} {p : List Segment} {t : Tree} {test : Test}
        → field_named (codes "Variable") fs ≡ Some (Text s) → Spells s p → HasOnly n t fs → SpellsOperator p n t test
        → StandsForTest fs test

  -- a rule inside another has neither `Next` nor `Comment`
  pub data StandsInside : Fields → Test → Type 0 where
    stands_inside : {fs : Fields} {test : Test} → field_named (codes "Next") fs ≡ None
        → field_named (codes "Comment") fs ≡ None → StandsForTest fs test → StandsInside fs test

  -- a list of rules inside another has at least one
  pub data StandForTests : Trees → Tests → Type 0 where
    last_test : {fs : Fields} {test : Test} → StandsInside fs test
        → StandForTests (AndTree (Object fs) NoTrees) (AndTest test NoTests)
    and_test : {fs : Fields} {test : Test} {ts : Trees} {tests : Tests} → StandsInside fs test → StandForTests ts tests
        → StandForTests (AndTree (Object fs) ts) (AndTest test tests)

-- a field that may be absent is a text where it is there
pub data IsTextIfThere : Option Tree → Type 0 where
  is_not_there : IsTextIfThere None
  is_a_text : {s : List ℕ} → IsTextIfThere (Some (Text s))

-- the tree stands for the rule: an object with a test and `Next`, and with a text in `Comment` where it has one
pub data StandsForRule : Tree → Rule → Type 0 where
  stands_for_rule : {fs : Fields} {next : List ℕ} {test : Test} → field_named (codes "Next") fs ≡ Some (Text next)
      → IsTextIfThere (field_named (codes "Comment") fs) → StandsForTest fs test
      → StandsForRule (Object fs) (record { test = test; next = next })
