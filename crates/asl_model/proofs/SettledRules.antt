-- Where two rules ask the same question, one for yes and one for no, one of the two is true of each tree on which all
-- rules are decided.
use Rattle.std.proofs.Common.{◌≡◌, ℕ, List, [], ◌∷◌, ◌++◌, Contains, Bool, true, false, ◌&&◌, ◌||◌, not, Option, Some, None, Result, Ok, Err, option_and_then, is_some, refl, sym, ◌∙◌, ap, subst, ◌⊎◌, ◌↔◌, inl, inr, IsTrue, IsFalse, if◌then◌else◌, eqb-true, eq-eqb, arith}
use Rattle.std.specs.List.{cons_option}
use Rattle.std.specs.Option.{option_map}
use Rattle.std.proofs.lemmas.Bool.{and_parts, and_from, false≢true}
use Rattle.std.proofs.lemmas.List.Elements.{filter_map-append}
use Rattle.std.proofs.lemmas.Option.{same_Some}
use Rattle.std.proofs.lemmas.Slice.Eq.{bytes_eq-Decides}
use Rattle.asl_model.specs.Tree.{Tree, Boolean}
use Rattle.asl_model.specs.Path.{Segment, Name, Index, named_by}
use Rattle.asl_model.specs.Test.{Test, And, Or, Not, Compare, StringMatches, IsOfKind, IsPresent, Comparison, StringIs, NumericIs, BooleanEquals, Operand, Constant, AtPath, ValueKind, NullKind, NumericKind, StringKind, BooleanKind, Rule, truth, as_boolean, is_of_kind, same_truth}
use Rattle.asl_model.specs.Shape.{Shape, Has}
use Rattle.asl_model.specs.ShapeFlow.{look, is_boolean_shape, Question, IsThere, IsOf, IsItTrue, truth_asked, finds_booleans, asks, asked, same_segment, same_path, same_kind, same_question, is_asked_otherwise, some_asked_both_ways, is_settled}
use Rattle.asl_model.proofs.Listed.{none_in, first_in, first_or_later, later_in}
use Rattle.asl_model.proofs.ShapeNarrow.{boolean-there}
use Rattle.asl_model.proofs.ShapeTemplate.{look-gives}

-- Questions that are the same

segment-same : (a b : Segment) → IsTrue (same_segment a b) → a ≡ b
segment-same (Name n) (Name m) e = ap Name ((bytes_eq-Decides n m).0 e)
segment-same (Name n) (Index j) e = absurd (false≢true e)
segment-same (Index i) (Name m) e = absurd (false≢true e)
segment-same (Index i) (Index j) e = ap Index (eqb-true i j e)

segment-itself : (a : Segment) → IsTrue (same_segment a a)
segment-itself (Name n) = (bytes_eq-Decides n n).1 refl
segment-itself (Index i) = eq-eqb i i refl

path-same : (a b : List Segment) → IsTrue (same_path a b) → a ≡ b
path-same [] [] e = refl
path-same [] (segment ∷ path) e = absurd (false≢true e)
path-same (segment ∷ path) [] e = absurd (false≢true e)
path-same (segment ∷ path) (other ∷ further) e =
    let both = and_parts (same_segment segment other) (same_path path further) e in
    let front = segment-same segment other both.0 in
    let back = path-same path further both.1 in
    rw (front, back) refl

path-itself : (a : List Segment) → IsTrue (same_path a a)
path-itself [] = refl
path-itself (segment ∷ path) = and_from (same_segment segment segment) (same_path path path) (segment-itself segment) (path-itself path)

kind-same : (a b : ValueKind) → IsTrue (same_kind a b) → a ≡ b
kind-same NullKind NullKind e = refl
kind-same NumericKind NumericKind e = refl
kind-same StringKind StringKind e = refl
kind-same BooleanKind BooleanKind e = refl
kind-same a b e = absurd (false≢true e)

kind-itself : (a : ValueKind) → IsTrue (same_kind a a)
kind-itself NullKind = refl
kind-itself NumericKind = refl
kind-itself StringKind = refl
kind-itself BooleanKind = refl

question-same : (a b : Question) → IsTrue (same_question a b) → a ≡ b
question-same (IsThere path) (IsThere other) e = ap IsThere (path-same path other e)
question-same (IsOf kind path) (IsOf another other) e =
    let both = and_parts (same_kind kind another) (same_path path other) e in
    let front = kind-same kind another both.0 in
    let back = path-same path other both.1 in
    rw (front, back) refl
question-same (IsItTrue path) (IsItTrue other) e = ap IsItTrue (path-same path other e)
question-same a b e = absurd (false≢true e)

question-itself : (a : Question) → IsTrue (same_question a a)
question-itself (IsThere path) = path-itself path
question-itself (IsOf kind path) = and_from (same_kind kind kind) (same_path path path) (kind-itself kind) (path-itself path)
question-itself (IsItTrue path) = path-itself path

-- Questions that are asked both ways

-- the list has the question, asked for yes, and asked for no
abbrev pub AskedBothWays : List (Question × Bool) → Type 0
AskedBothWays questions = (question : Question) × Contains questions (question, true) × Contains questions (question, false)

otherwise-asked : (question : Question) (answer : Bool) (others : List (Question × Bool)) → IsTrue (is_asked_otherwise question answer others) → Contains others (question, not answer)
otherwise-asked question answer [] e = absurd (false≢true e)
otherwise-asked question answer (other ∷ others) e = go (same_question question other.0 && same_truth answer (not other.1)) refl e (otherwise-asked question answer others)
  where
    go : (same : Bool) → (same_question question other.0 && same_truth answer (not other.1)) ≡ same → IsTrue (same || is_asked_otherwise question answer others) → (IsTrue (is_asked_otherwise question answer others) → Contains others (question, not answer)) → Contains (other ∷ others) (question, not answer)
    go true found e' below =
        let both = and_parts (same_question question other.0) (same_truth answer (not other.1)) found in
        let front : question ≡ other.0 = question-same question other.0 both.0 in
        let back : other.1 ≡ not answer = grind arith in
        subst (λ (q : Question). Contains (other ∷ others) (q, not answer)) (sym front) (subst (λ (b : Bool). Contains (other ∷ others) (other.0, b)) back (first_in other others))
    go false apart e' below = later_in other (question, not answer) others (below e')

asked-otherwise : (question : Question) (answer : Bool) (others : List (Question × Bool)) → Contains others (question, not answer) → IsTrue (is_asked_otherwise question answer others)
asked-otherwise question answer [] c = none_in (question, not answer) c
asked-otherwise question answer (other ∷ others) c = go (first_or_later other (question, not answer) others c) (asked-otherwise question answer others)
  where
    twice : (b : Bool) → IsTrue (same_truth b (not (not b)))
    twice true = refl
    twice false = refl

    go : (other ≡ (question, not answer)) ⊎ Contains others (question, not answer) → (Contains others (question, not answer) → IsTrue (is_asked_otherwise question answer others)) → IsTrue (is_asked_otherwise question answer (other ∷ others))
    go (inl e) below = subst (λ (o : Question × Bool). IsTrue ((same_question question o.0 && same_truth answer (not o.1)) || is_asked_otherwise question answer others)) (sym e) (rw (question-itself question, twice answer) refl)
    go (inr c') below = rw (below c') (or_true (same_question question other.0 && same_truth answer (not other.1)))
      where
        or_true : (b : Bool) → IsTrue (b || true)
        or_true true = refl
        or_true false = refl

-- a question and the other answer beside it
both-ways : (one : Question × Bool) (others : List (Question × Bool)) → Contains others (one.0, not one.1) → AskedBothWays (one ∷ others)
both-ways (question, true) others c = (question, first_in (question, true) others, later_in (question, true) (question, false) others c)
both-ways (question, false) others c = (question, later_in (question, false) (question, true) others c, first_in (question, false) others)

asked-both_ways : (questions : List (Question × Bool)) → IsTrue (some_asked_both_ways questions) → AskedBothWays questions
asked-both_ways [] e = absurd (false≢true e)
asked-both_ways (one ∷ others) e = go (is_asked_otherwise one.0 one.1 others) refl e (asked-both_ways others)
  where
    go : (first : Bool) → is_asked_otherwise one.0 one.1 others ≡ first → IsTrue (first || some_asked_both_ways others) → (IsTrue (some_asked_both_ways others) → AskedBothWays others) → AskedBothWays (one ∷ others)
    go true found e' below = both-ways one others (otherwise-asked one.0 one.1 others found)
    go false apart e' below =
        let pair = below e' in
        (pair.0, later_in one (pair.0, true) others pair.1, later_in one (pair.0, false) others pair.2)

-- a question that is asked for yes and for no is asked both ways
pub both_ways-asked : (question : Question) (questions : List (Question × Bool)) → Contains questions (question, true) → Contains questions (question, false) → IsTrue (some_asked_both_ways questions)
both_ways-asked question [] c d = none_in (question, true) c
both_ways-asked question (one ∷ others) c d = go (first_or_later one (question, true) others c) (first_or_later one (question, false) others d) (both_ways-asked question others)
  where
    or_true : (b : Bool) → IsTrue (b || true)
    or_true true = refl
    or_true false = refl

    go : (one ≡ (question, true)) ⊎ Contains others (question, true) → (one ≡ (question, false)) ⊎ Contains others (question, false) → (Contains others (question, true) → Contains others (question, false) → IsTrue (some_asked_both_ways others)) → IsTrue (some_asked_both_ways (one ∷ others))
    go (inl e) (inl f) below =
        let same : true ≡ false = ap (λ (o : Question × Bool). o.1) (sym e ∙ f) in
        absurd (cc)
    go (inl e) (inr d') below = subst (λ (o : Question × Bool). IsTrue (is_asked_otherwise o.0 o.1 others || some_asked_both_ways others)) (sym e) (rw (asked-otherwise question true others d') refl)
    go (inr c') (inl f) below = subst (λ (o : Question × Bool). IsTrue (is_asked_otherwise o.0 o.1 others || some_asked_both_ways others)) (sym f) (rw (asked-otherwise question false others c') refl)
    go (inr c') (inr d') below = rw (below c' d') (or_true (is_asked_otherwise one.0 one.1 others))

-- rules are settled exactly where some question is asked both ways
pub settled-exactly : (rules : List Rule) (s : Shape) → IsTrue (is_settled rules s) ↔ AskedBothWays (asked rules s)
settled-exactly rules s = (asked-both_ways (asked rules s), λ both. both_ways-asked both.0 (asked rules s) both.1 both.2)

-- where each question has one known answer, which is that it is asked for, none is asked both ways
pub one_answer-unsettled : (questions : List (Question × Bool)) (known : Question → Option Bool) → ((question : Question) (answer : Bool) → Contains questions (question, answer) → known question ≡ Some answer) → IsFalse (some_asked_both_ways questions)
one_answer-unsettled questions known tells = go (some_asked_both_ways questions) refl
  where
    go : (both : Bool) → some_asked_both_ways questions ≡ both → IsFalse both
    go false is = refl
    go true is =
        let pair = asked-both_ways questions is in
        let same : true ≡ false = same_Some true false (sym (tells pair.0 true pair.1) ∙ tells pair.0 false pair.2) in
        absurd (cc)

-- what further rules ask comes behind what the first ones do
pub asked-append : (rules further : List Rule) (s : Shape) → asked (rules ++ further) s ≡ asked rules s ++ asked further s
asked-append rules further s = filter_map-append (λ (rule : Rule). asks s rule.test) rules further

-- Answers

-- what is true of a question on a tree; None: its path names nothing, or no truth value
abbrev answer : Question → Tree → Option Bool
answer (IsThere path) v = Some (is_some (named_by path v))
answer (IsOf kind path) v = option_map (is_of_kind kind) (named_by path v)
answer (IsItTrue path) v = option_and_then as_boolean (named_by path v)

-- the question has an answer on the tree, and that is the one asked for exactly where the value is true
abbrev Answered : Tree → Bool → Question × Bool → Type 0
Answered v value one = (given : Bool) × (answer one.0 v ≡ Some given) × (value ≡ same_truth one.1 given)

-- a comparison that asks for a truth value is one with that constant
truth-constant : (comparison : Comparison) (operand : Operand) (b : Bool) → truth_asked comparison operand ≡ Some b → (comparison ≡ BooleanEquals) × (operand ≡ Constant (Boolean b))
truth-constant (StringIs relation) operand b e = absurd (cc)
truth-constant (NumericIs relation) operand b e = absurd (cc)
truth-constant BooleanEquals (AtPath path) b e = absurd (cc)
truth-constant BooleanEquals (Constant (Boolean c)) b e = (refl, ap (λ d. Constant (Boolean d)) (same_Some c b e))
truth-constant BooleanEquals (Constant t) b e = absurd (cc)

same_truth-turned : (a b : Bool) → same_truth a b ≡ same_truth b a
same_truth-turned true true = refl
same_truth-turned true false = refl
same_truth-turned false true = refl
same_truth-turned false false = refl

kind-answered : (path : List Segment) (kind : ValueKind) (expected : Bool) (v : Tree) (value : Bool) → truth (IsOfKind path kind expected) v ≡ Some value → Answered v value (IsOf kind path, expected)
kind-answered path kind expected v value e = go (named_by path v) e
  where
    go : (named : Option Tree) → option_map (λ t. same_truth expected (is_of_kind kind t)) named ≡ Some value → (given : Bool) × (option_map (is_of_kind kind) named ≡ Some given) × (value ≡ same_truth expected given)
    go None e' = absurd (cc)
    go (Some u) e' = (is_of_kind kind u, refl, sym (same_Some (same_truth expected (is_of_kind kind u)) value e'))

truth-answered : (path : List Segment) (b : Bool) (s t : Shape) (v : Tree) (value : Bool) → look path s ≡ Ok t → IsTrue (is_boolean_shape t) → Has s v → truth (Compare path BooleanEquals (Constant (Boolean b))) v ≡ Some value → Answered v value (IsItTrue path, b)
truth-answered path b s t v value found boolean h e =
    let named = look-gives path s t v found h in
    let one = boolean-there t named.0 boolean named.2 in
    let is : named_by path v ≡ Some (Boolean one.0) = named.1 ∙ ap (λ (u : Tree). Some u) one.1 in
    let known : Some (same_truth one.0 b) ≡ Some value = rw is at e in
    (one.0, rw is refl, sym (same_Some (same_truth one.0 b) value known) ∙ same_truth-turned one.0 b)

compared-answered : (path : List Segment) (comparison : Comparison) (operand : Operand) (s : Shape) (v : Tree) (one : Question × Bool) (value : Bool) → asks s (Compare path comparison operand) ≡ Some one → Has s v → truth (Compare path comparison operand) v ≡ Some value → Answered v value one
compared-answered path comparison operand s v one value a h e = at_path (look path s) refl a
  where
    with_truth : (t : Shape) (wanted : Option Bool) → look path s ≡ Ok t → IsTrue (is_boolean_shape t) → truth_asked comparison operand ≡ wanted → option_map (λ b. (IsItTrue path, b)) wanted ≡ Some one → Answered v value one
    with_truth t None found boolean is a' = absurd (cc)
    with_truth t (Some b) found boolean is a' =
        let parts = truth-constant comparison operand b is in
        subst (Answered v value) (same_Some (IsItTrue path, b) one a') (truth-answered path b s t v value found boolean h (rw (parts.0, parts.1) at e))

    of_booleans : (t : Shape) (only : Bool) → look path s ≡ Ok t → is_boolean_shape t ≡ only → (if only then option_map (λ b. (IsItTrue path, b)) (truth_asked comparison operand) else None) ≡ Some one → Answered v value one
    of_booleans t true found boolean a' = with_truth t (truth_asked comparison operand) found boolean refl a'
    of_booleans t false found boolean a' = absurd (cc)

    at_path : (found : Result Shape ℕ) → look path s ≡ found → (if finds_booleans found then option_map (λ b. (IsItTrue path, b)) (truth_asked comparison operand) else None) ≡ Some one → Answered v value one
    at_path (Ok t) found a' = of_booleans t (is_boolean_shape t) found refl a'
    at_path (Err k) found a' = absurd (cc)

-- a test that is decided answers its question
test-answered : (test : Test) (s : Shape) (v : Tree) (one : Question × Bool) (value : Bool) → asks s test ≡ Some one → Has s v → truth test v ≡ Some value → Answered v value one
test-answered (And tests) s v one value a h e = absurd (cc)
test-answered (Or tests) s v one value a h e = absurd (cc)
test-answered (Not test) s v one value a h e = absurd (cc)
test-answered (Compare path comparison operand) s v one value a h e = compared-answered path comparison operand s v one value a h e
test-answered (StringMatches path pattern) s v one value a h e = absurd (cc)
test-answered (IsOfKind path kind expected) s v one value a h e = subst (Answered v value) (same_Some (IsOf kind path, expected) one a) (kind-answered path kind expected v value e)
test-answered (IsPresent path expected) s v one value a h e = subst (Answered v value) (same_Some (IsThere path, expected) one a) (is_some (named_by path v), refl, sym (same_Some (same_truth expected (is_some (named_by path v))) value e))

-- Rules

-- what is asked is asked by a rule
asked-by : (rules : List Rule) (s : Shape) (one : Question × Bool) → Contains (asked rules s) one → (rule : Rule) × Contains rules rule × (asks s rule.test ≡ Some one)
asked-by [] s one c = none_in one c
asked-by (rule ∷ rules) s one c = go (asks s rule.test) refl c (asked-by rules s one)
  where
    further : (other : Rule) × Contains rules other × (asks s other.test ≡ Some one) → (other : Rule) × Contains (rule ∷ rules) other × (asks s other.test ≡ Some one)
    further found = (found.0, later_in rule found.0 rules found.1, found.2)

    first : (own : Question × Bool) → asks s rule.test ≡ Some own → (own ≡ one) ⊎ Contains (asked rules s) one → (Contains (asked rules s) one → (other : Rule) × Contains rules other × (asks s other.test ≡ Some one)) → (other : Rule) × Contains (rule ∷ rules) other × (asks s other.test ≡ Some one)
    first own at (inl e) below = (rule, first_in rule rules, at ∙ ap (λ (o : Question × Bool). Some o) e)
    first own at (inr d) below = further (below d)

    go : (question : Option (Question × Bool)) → asks s rule.test ≡ question → Contains (cons_option question (asked rules s)) one → (Contains (asked rules s) one → (other : Rule) × Contains rules other × (asks s other.test ≡ Some one)) → (other : Rule) × Contains (rule ∷ rules) other × (asks s other.test ≡ Some one)
    go None at c' below = further (below c')
    go (Some own) at c' below = first own at (first_or_later own one (asked rules s) c') below

-- every rule is true or false of the tree
abbrev pub AllDecided : List Rule → Tree → Type 0
AllDecided rules v = (rule : Rule) → Contains rules rule → (value : Bool) × (truth rule.test v ≡ Some value)

-- some rule is true of it
abbrev pub SomeTrue : List Rule → Tree → Type 0
SomeTrue rules v = (rule : Rule) × Contains rules rule × (truth rule.test v ≡ Some true)

-- of settled rules that are all decided one is true
pub settled-true : (rules : List Rule) (s : Shape) (v : Tree) → IsTrue (is_settled rules s) → AllDecided rules v → Has s v → SomeTrue rules v
settled-true rules s v settled decided h = go given refl
  where
    pair : AskedBothWays (asked rules s)
    pair = (settled-exactly rules s).0 settled

    asks_yes : (rule : Rule) × Contains rules rule × (asks s rule.test ≡ Some (pair.0, true))
    asks_yes = asked-by rules s (pair.0, true) pair.1

    asks_no : (rule : Rule) × Contains rules rule × (asks s rule.test ≡ Some (pair.0, false))
    asks_no = asked-by rules s (pair.0, false) pair.2

    value_yes : (value : Bool) × (truth asks_yes.0.test v ≡ Some value)
    value_yes = decided asks_yes.0 asks_yes.1

    value_no : (value : Bool) × (truth asks_no.0.test v ≡ Some value)
    value_no = decided asks_no.0 asks_no.1

    answered_yes : Answered v value_yes.0 (pair.0, true)
    answered_yes = test-answered asks_yes.0.test s v (pair.0, true) value_yes.0 asks_yes.2 h value_yes.1

    answered_no : Answered v value_no.0 (pair.0, false)
    answered_no = test-answered asks_no.0.test s v (pair.0, false) value_no.0 asks_no.2 h value_no.1

    given : Bool
    given = answered_yes.0

    same : given ≡ answered_no.0
    same = same_Some given answered_no.0 (sym answered_yes.1 ∙ answered_no.1)

    go : (b : Bool) → given ≡ b → SomeTrue rules v
    go true is = (asks_yes.0, asks_yes.1, value_yes.1 ∙ ap (λ (c : Bool). Some c) (answered_yes.2 ∙ is))
    go false is = (asks_no.0, asks_no.1, value_no.1 ∙ ap (λ (c : Bool). Some c) (answered_no.2 ∙ ap not (sym same ∙ is)))
