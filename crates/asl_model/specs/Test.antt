-- The tests of a Choice's rules, and their truth (States Language, "Choice State").
-- The profile chooses: two values that are not both of the operator's type compare as false, and a test but
-- `IsPresent` whose path names nothing is neither true nor false.
use Rattle.std.specs.Prelude.{ℕ, ℤ, List, [], ◌∷◌, ◌++◌, Bool, true, false, not, ◌&&◌, ◌||◌}
use Rattle.std.specs.Prelude.{nat_eq, Option, Some, None, is_some, option_and_then}
use Rattle.std.specs.Option.{option_map}
use Rattle.std.specs.declared.cmp.Ordering.{Ordering}
use Rattle.std.specs.Ordering.{nat_cmp, int_cmp, match_ordering}
use Rattle.std.specs.Cmp.Lexicographic.{slice_cmp}
use Rattle.asl_model.specs.Names.{StateName, Bytes}
use Rattle.asl_model.specs.Tree.{Tree, Null, Boolean, Integer, Text, Array, Object}
use Rattle.asl_model.specs.Path.{Segment, named_by}

-- `Equals`, `LessThan`, `GreaterThan`, `LessThanEquals`, `GreaterThanEquals`
pub data Relation : Type 0 where
  Equals : Relation
  LessThan : Relation
  GreaterThan : Relation
  LessThanEquals : Relation
  GreaterThanEquals : Relation

-- `StringEquals` to `StringGreaterThanEquals`, the same with `Numeric`, and `BooleanEquals`
pub data Comparison : Type 0 where
  StringIs : Relation → Comparison
  NumericIs : Relation → Comparison
  BooleanEquals : Comparison

-- what a comparison's second value is: given in the rule, or (the operators that end in `Path`) looked up
pub data Operand : Type 0 where
  Constant : Tree → Operand
  AtPath : List Segment → Operand

-- `IsNull`, `IsNumeric`, `IsString`, `IsBoolean`
pub data ValueKind : Type 0 where
  NullKind : ValueKind
  NumericKind : ValueKind
  StringKind : ValueKind
  BooleanKind : ValueKind

-- an element of a pattern: a byte of a character, which matches itself, or a star, which matches any text
pub data PatternPart : Type 0 where
  ByteOf : ℕ → PatternPart
  Star : PatternPart

mutual
  -- a rule without its `Next`
  pub data Test : Type 0 where
    And : Tests → Test
    Or : Tests → Test
    Not : Test → Test
    -- the value at the path, compared with the operand
    Compare : List Segment → Comparison → Operand → Test
    -- the text at the path matches the pattern
    StringMatches : List Segment → List PatternPart → Test
    -- whether the value at the path is of the kind; with false the answer is turned round
    IsOfKind : List Segment → ValueKind → Bool → Test
    -- whether the path names something; with false the answer is turned round
    IsPresent : List Segment → Bool → Test

  -- the parts of `And` or `Or`
  pub data Tests : Type 0 where
    NoTests : Tests
    AndTest : Test → Tests → Tests

-- a rule of `Choices`: its test, and the state that follows where the test is true
pub record Rule : Type 0 where
  pub test : Test
  pub next : StateName

-- the text that a tree is, if it is one
abbrev pub as_text : Tree → Option Bytes
as_text Null = None
as_text (Boolean b) = None
as_text (Integer n) = None
as_text (Text t) = Some t
as_text (Array ts) = None
as_text (Object fs) = None

-- the number that a tree is, if it is one
abbrev pub as_integer : Tree → Option ℤ
as_integer Null = None
as_integer (Boolean b) = None
as_integer (Integer n) = Some n
as_integer (Text t) = None
as_integer (Array ts) = None
as_integer (Object fs) = None

-- the truth value that a tree is, if it is one
abbrev pub as_boolean : Tree → Option Bool
as_boolean Null = None
as_boolean (Boolean b) = Some b
as_boolean (Integer n) = None
as_boolean (Text t) = None
as_boolean (Array ts) = None
as_boolean (Object fs) = None

-- both are there, and agree with the test
abbrev pub both_and : {A : Type 0} → (A → A → Bool) → Option A → Option A → Bool
both_and agree None b = false
both_and agree (Some a) None = false
both_and agree (Some a) (Some b) = agree a b

-- two truth values are the same
abbrev pub same_truth : Bool → Bool → Bool
same_truth true b = b
same_truth false b = not b

-- the relation holds of two values that compare so
abbrev pub relates : Relation → Ordering → Bool
relates Equals order = match_ordering order false true false
relates LessThan order = match_ordering order true false false
relates GreaterThan order = match_ordering order false false true
relates LessThanEquals order = match_ordering order true true false
relates GreaterThanEquals order = match_ordering order false true true

-- the comparison of two values; texts are ordered by UTF-8 bytes
abbrev pub compares : Comparison → Tree → Tree → Bool
compares (StringIs relation) t u = both_and (λ a b. relates relation (slice_cmp nat_cmp a b)) (as_text t) (as_text u)
compares (NumericIs relation) t u = both_and (λ a b. relates relation (int_cmp a b)) (as_integer t) (as_integer u)
compares BooleanEquals t u = both_and same_truth (as_boolean t) (as_boolean u)

-- the tree is null
abbrev pub is_null_value : Tree → Bool
is_null_value Null = true
is_null_value (Boolean b) = false
is_null_value (Integer n) = false
is_null_value (Text t) = false
is_null_value (Array ts) = false
is_null_value (Object fs) = false

-- the value is null; is a number, a text, a truth value
abbrev pub is_of_kind : ValueKind → Tree → Bool
is_of_kind NullKind t = is_null_value t
is_of_kind NumericKind t = is_some (as_integer t)
is_of_kind StringKind t = is_some (as_text t)
is_of_kind BooleanKind t = is_some (as_boolean t)

-- the text can be cut into parts, one for each element of the pattern: a byte is itself, a star any text
pub data IsCutBy : List PatternPart → Bytes → Type 0 where
  cut_is_over : IsCutBy [] []
  cut_off_byte : {b : ℕ} {parts : List PatternPart} {further : Bytes} → IsCutBy parts further
      → IsCutBy (ByteOf b ∷ parts) (b ∷ further)
  cut_off_star : {parts : List PatternPart} {further : Bytes} (front : Bytes) → IsCutBy parts further
      → IsCutBy (Star ∷ parts) (front ++ further)

-- the text itself, or what is left behind some front of it, passes the test
abbrev pub some_end : (Bytes → Bool) → Bytes → Bool
some_end passes [] = passes []
some_end passes (b ∷ bs) = passes (b ∷ bs) || some_end passes bs

-- whether the text can be cut so
abbrev pub is_cut_by : List PatternPart → Bytes → Bool
is_cut_by [] [] = true
is_cut_by [] (b ∷ bs) = false
is_cut_by (ByteOf b ∷ parts) [] = false
is_cut_by (ByteOf b ∷ parts) (c ∷ cs) = nat_eq b c && is_cut_by parts cs
is_cut_by (Star ∷ parts) text = some_end (is_cut_by parts) text

-- the value is a text and matches the pattern
abbrev pub matches : List PatternPart → Option Bytes → Bool
matches pattern None = false
matches pattern (Some text) = is_cut_by pattern text

-- the second value of a comparison
abbrev pub operand_value : Operand → Tree → Option Tree
operand_value (Constant t) input = Some t
operand_value (AtPath p) input = named_by p input

-- the first part that isn't true decides
abbrev pub and_truth : Option Bool → Option Bool → Option Bool
and_truth None further = None
and_truth (Some false) further = Some false
and_truth (Some true) further = further

-- the first part that isn't false decides
abbrev pub or_truth : Option Bool → Option Bool → Option Bool
or_truth None further = None
or_truth (Some false) further = further
or_truth (Some true) further = Some true

abbrev mutual
  -- the truth of a test on an input; None where it isn't decided, since a path names nothing
  pub truth : Test → Tree → Option Bool
  truth (And tests) input = all_true tests input
  truth (Or tests) input = some_true tests input
  truth (Not test) input = option_map not (truth test input)
  truth (Compare p comparison operand) input =
      option_and_then (λ t. option_map (compares comparison t) (operand_value operand input)) (named_by p input)
  truth (StringMatches p pattern) input = option_map (λ t. matches pattern (as_text t)) (named_by p input)
  truth (IsOfKind p kind wanted) input = option_map (λ t. same_truth wanted (is_of_kind kind t)) (named_by p input)
  truth (IsPresent p wanted) input = Some (same_truth wanted (is_some (named_by p input)))

  -- `And`: the first part that isn't true decides; true where there is none
  pub all_true : Tests → Tree → Option Bool
  all_true NoTests input = Some true
  all_true (AndTest test others) input = and_truth (truth test input) (all_true others input)

  -- `Or`: the first part that isn't false decides; false where there is none
  pub some_true : Tests → Tree → Option Bool
  some_true NoTests input = Some false
  some_true (AndTest test others) input = or_truth (truth test input) (some_true others input)
