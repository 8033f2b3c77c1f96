-- Worked examples of rules that narrow by kind, and of rules that stand for a `Default`.
use Rattle.std.specs.Prelude.{◌≡◌, ℕ, pos, List, [], ◌∷◌, map, Bool, true, false, Some, None, Result, Ok, Err, codes, refl}
use Rattle.asl_model.specs.Tree.{Null, Boolean, Integer, Object, fields_of}
use Rattle.asl_model.specs.Path.{Segment, Name, Index}
use Rattle.asl_model.specs.Test.{Test, And, Or, Not, Compare, BooleanEquals, Constant, AtPath, IsOfKind, NullKind, NumericKind, StringKind, BooleanKind, IsPresent, NoTests, AndTest, Rule}
use Rattle.asl_model.specs.Machine.{Scope, ScopeOf, NoStates, AndState, StateOf, Choice, Wait, Succeed, TimestampPath}
use Rattle.asl_model.specs.Shape.{Shape, Any, OfKinds, no_simple, WithoutArrays, ArraysOf, WithoutObjects, Never, NullShape, BooleanShape, IntegerShape, StringShape, ArrayShape, ObjectShape, NoShapes, AndShape, NoFieldShapes, AndFieldShape}
use Rattle.asl_model.specs.ShapeFlow.{DoubtfulPath, rule_shape, is_settled}
use Rattle.asl_model.specs.Certificate.{StateShapes}
use Rattle.asl_model.specs.Finding.{Finding, PathMayBeMissing, NoDefault, NextInput, findings}
use Rattle.asl_model.proofs.ExamplesSettings.{bare}

-- The shape that is narrowed

-- the path to a field, and an object with that needed field
abbrev at : List ℕ → List Segment
at n = Name n ∷ []

abbrev k : List Segment
k = at (codes "k")

abbrev with_k : Shape → Shape
with_k s = ObjectShape (AndFieldShape (codes "k") true s NoFieldShapes) false

abbrev null_or_text : Shape
null_or_text = OfKinds (record no_simple { null = true; text = true }) WithoutArrays WithoutObjects

-- what a rule lets through, and what one that asks for the opposite does
string_kept : rule_shape (IsOfKind k StringKind true) (with_k null_or_text) ≡ Ok (with_k StringShape)
string_kept = refl

null_left_out : rule_shape (IsOfKind k NullKind false) (with_k null_or_text) ≡ Ok (with_k StringShape)
null_left_out = refl

null_kept : rule_shape (IsOfKind k NullKind true) (with_k null_or_text) ≡ Ok (with_k NullShape)
null_kept = refl

-- Any becomes the kind; where it asks for another kind, it stays
abbrev each_kind : Bool → Shape → List (Result Shape DoubtfulPath)
each_kind expected s = map (λ kind. rule_shape (IsOfKind [] kind expected) s) (NullKind ∷ NumericKind ∷ StringKind ∷ BooleanKind ∷ [])

any_kinds : each_kind true Any ≡ Ok NullShape ∷ Ok IntegerShape ∷ Ok StringShape ∷ Ok BooleanShape ∷ []
any_kinds = refl

any_stays : each_kind false Any ≡ Ok Any ∷ Ok Any ∷ Ok Any ∷ Ok Any ∷ []
any_stays = refl

-- the kind itself stays, and each other becomes Never
text_kinds : each_kind true StringShape ≡ Ok Never ∷ Ok Never ∷ Ok StringShape ∷ Ok Never ∷ []
text_kinds = refl

text_stays : each_kind false StringShape ≡ Ok StringShape ∷ Ok StringShape ∷ Ok Never ∷ Ok StringShape ∷ []
text_stays = refl

numbers_in_text : rule_shape (IsOfKind k NumericKind true) (with_k StringShape) ≡ Ok Never
numbers_in_text = refl

-- several kinds become the kind, or lose it; a list is of none of the four
abbrev null_or_list : Shape
null_or_list = OfKinds (record no_simple { null = true }) (ArraysOf NoShapes IntegerShape) WithoutObjects

several_kinds : each_kind true null_or_list ≡ Ok NullShape ∷ Ok Never ∷ Ok Never ∷ Ok Never ∷ []
several_kinds = refl

several_lose : each_kind false null_or_list ≡ Ok (ArrayShape NoShapes IntegerShape) ∷ Ok null_or_list ∷ Ok null_or_list ∷ Ok null_or_list ∷ []
several_lose = refl

-- at a place, where the other places and fields stay
abbrev pair_of : Shape → Shape
pair_of s = with_k (ArrayShape (AndShape IntegerShape (AndShape s NoShapes)) Any)

at_place : rule_shape (IsOfKind (Name (codes "k") ∷ Index 1 ∷ []) StringKind true) (pair_of null_or_text) ≡ Ok (pair_of StringShape)
at_place = refl

-- a path that may name nothing, and a shape without a tree
abbrev optional_k : Shape
optional_k = ObjectShape (AndFieldShape (codes "k") false StringShape NoFieldShapes) false

may_be_missing : rule_shape (IsOfKind k StringKind true) optional_k ≡ Err (record { path = k; segment = 0; shape = optional_k })
may_be_missing = refl

of_nothing : rule_shape (IsOfKind k StringKind true) Never ≡ Ok Never
of_nothing = refl

-- `And` goes on with the narrowed shape, `Or` and `Not` don't narrow
and_narrows : rule_shape (And (AndTest (IsOfKind [] StringKind true) (AndTest (IsOfKind [] NullKind false) NoTests))) Any ≡ Ok StringShape
and_narrows = refl

or_keeps : rule_shape (Or (AndTest (IsOfKind k StringKind true) NoTests)) (with_k null_or_text) ≡ Ok (with_k null_or_text)
or_keeps = refl

not_keeps : rule_shape (Not (IsOfKind k StringKind false)) (with_k null_or_text) ≡ Ok (with_k null_or_text)
not_keeps = refl

-- Rules that stand for a `Default`

abbrev rule : List ℕ → Test → Rule
rule next test = record { test = test; next = next }

-- whether these two tests stand for it
abbrev settle : Shape → Test → Test → Bool
settle s yes_test no_test = is_settled (rule (codes "B") yes_test ∷ rule (codes "C") no_test ∷ []) s

abbrev boolean_is : List Segment → Bool → Test
boolean_is path b = Compare path BooleanEquals (Constant (Boolean b))

abbrev boolean_or_null : Shape
boolean_or_null = OfKinds (record no_simple { null = true; boolean = true }) WithoutArrays WithoutObjects

-- truth values alone, and null beside them; an optional field
both_truths : settle (with_k BooleanShape) (boolean_is k true) (boolean_is k false) ≡ true
both_truths = refl

truths_or_null : settle (with_k boolean_or_null) (boolean_is k true) (boolean_is k false) ≡ false
truths_or_null = refl

truths_may_be_missing : settle (ObjectShape (AndFieldShape (codes "k") false BooleanShape NoFieldShapes) false) (boolean_is k true) (boolean_is k false) ≡ false
truths_may_be_missing = refl

-- a truth value that is looked up, or a constant of another kind, asks nothing
truth_at_path : settle BooleanShape (boolean_is [] true) (Compare [] BooleanEquals (AtPath [])) ≡ false
truth_at_path = refl

truth_and_number : settle BooleanShape (boolean_is [] true) (Compare [] BooleanEquals (Constant (Integer (pos 0)))) ≡ false
truth_and_number = refl

-- in either order, and with another rule between
other_order : settle (with_k BooleanShape) (boolean_is k false) (boolean_is k true) ≡ true
other_order = refl

one_between : is_settled (rule (codes "B") (boolean_is k true) ∷ rule (codes "C") (IsPresent k true) ∷ rule (codes "D") (boolean_is k false) ∷ []) (with_k BooleanShape) ≡ true
one_between = refl

-- presence, and each of the four kinds, whatever the shape is
present_and_absent : settle Any (IsPresent k true) (IsPresent k false) ≡ true
present_and_absent = refl

four_kinds : map (λ kind. settle (with_k null_or_text) (IsOfKind k kind true) (IsOfKind k kind false)) (NullKind ∷ NumericKind ∷ StringKind ∷ BooleanKind ∷ []) ≡ true ∷ true ∷ true ∷ true ∷ []
four_kinds = refl

-- two paths, two kinds, two operators, the same answer
other_path : settle Any (IsPresent k true) (IsPresent (at (codes "j")) false) ≡ false
other_path = refl

longer_path : settle Any (IsPresent k true) (IsPresent (Name (codes "k") ∷ Index 0 ∷ []) false) ≡ false
longer_path = refl

other_kind : settle (with_k null_or_text) (IsOfKind k NullKind true) (IsOfKind k StringKind false) ≡ false
other_kind = refl

other_operator : settle (with_k BooleanShape) (IsOfKind k BooleanKind true) (boolean_is k false) ≡ false
other_operator = refl

same_answer : settle (with_k null_or_text) (IsOfKind k NullKind true) (IsOfKind k NullKind true) ≡ false
same_answer = refl

-- one rule, and a pair that isn't of rules themselves
one_rule : is_settled (rule (codes "B") (IsPresent k true) ∷ []) Any ≡ false
one_rule = refl

inside_and : settle Any (And (AndTest (IsPresent k true) NoTests)) (And (AndTest (IsPresent k false) NoTests)) ≡ false
inside_and = refl

inside_one_and : is_settled (rule (codes "B") (And (AndTest (IsPresent k true) (AndTest (IsPresent k false) NoTests))) ∷ []) Any ≡ false
inside_one_and = refl

inside_not : settle Any (IsPresent k true) (Not (IsPresent k true)) ≡ false
inside_not = refl

-- Findings

abbrev entry : List ℕ → Shape → List ℕ × StateShapes
entry n s = (n, record { input = s; output = s; branches = []; item = None })

-- what is found of a machine whose states' outputs are as their inputs, certified with these shapes of them
abbrev found : Scope → Shape → Shape → List (List ℕ × StateShapes) → List Finding
found machine input output entries = findings machine (record { input = input; tasks = [] }) (record { output = output; states = entries })

-- a Choice that goes on to a Wait by that rule, and by `Default` to a Succeed
abbrev waiting_for : Test → Scope
waiting_for test = ScopeOf (codes "A") (AndState (codes "A") (StateOf (bare None) (Choice (rule (codes "B") test ∷ []) (Some (codes "C")))) (AndState (codes "B") (StateOf (bare None) (Wait (TimestampPath k))) (AndState (codes "C") (StateOf (bare None) Succeed) NoStates)))

abbrev waiting_findings : Test → List Finding
waiting_findings test = found (waiting_for test) (with_k null_or_text) (with_k null_or_text) (entry (codes "A") (with_k null_or_text) ∷ entry (codes "B") (with_k StringShape) ∷ entry (codes "C") (with_k null_or_text) ∷ [])

waits_for_text : waiting_findings (IsOfKind k StringKind true) ≡ []
waits_for_text = refl

waits_for_no_null : waiting_findings (IsOfKind k NullKind false) ≡ []
waits_for_no_null = refl

-- null stands at `k` there, which is no text
waits_for_anything : waiting_findings (IsPresent k true) ≡ record { state = codes "A"; field = codes "Choices"; fault = NextInput; example = Some (Object (fields_of ((codes "k", Null) ∷ []))) } ∷ []
waits_for_anything = refl

-- a Choice by a truth value, without `Default`
abbrev choosing : Scope
choosing = ScopeOf (codes "A") (AndState (codes "A") (StateOf (bare None) (Choice (rule (codes "B") (boolean_is k true) ∷ rule (codes "C") (boolean_is k false) ∷ []) None)) (AndState (codes "B") (StateOf (bare None) Succeed) (AndState (codes "C") (StateOf (bare None) Succeed) NoStates)))

abbrev choosing_findings : Shape → List Finding
choosing_findings s = found choosing s s (entry (codes "A") s ∷ entry (codes "B") s ∷ entry (codes "C") s ∷ [])

chooses_by_truth : choosing_findings (with_k BooleanShape) ≡ []
chooses_by_truth = refl

needs_default : choosing_findings (with_k boolean_or_null) ≡ record { state = codes "A"; field = codes "Default"; fault = NoDefault; example = None } ∷ []
needs_default = refl

-- where their path may name nothing, that is told of each of the two, with null as a tree in which it names nothing, and
-- a `Default` is needed
needs_presence : choosing_findings Any ≡ record { state = codes "A"; field = codes "Choices"; fault = PathMayBeMissing; example = Some Null } ∷ record { state = codes "A"; field = codes "Choices"; fault = PathMayBeMissing; example = Some Null } ∷ record { state = codes "A"; field = codes "Default"; fault = NoDefault; example = None } ∷ []
needs_presence = refl
