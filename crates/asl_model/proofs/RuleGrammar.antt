-- A tree spells exactly the rule that it stands for.
use Rattle.std.proofs.Common.{◌≡◌, ◌↔◌, ℕ, List, [], ◌∷◌, ◌++◌, Bool, true, false, ◌||◌, if◌then◌else◌, Option, Some, None, is_some, option_and_then, unwrap_or, Result, Ok, Err, bytes_eq, codes, refl, sym, ap, ap₂, subst, ◌∙◌, ◌⊎◌, inl, inr}
use Rattle.std.proofs.lemmas.Bool.{or_cases, true≢false, false_from_ne_true}
use Rattle.std.proofs.lemmas.Option.{none-some, same_Some}
use Rattle.std.proofs.lemmas.Slice.Eq.{bytes_eq-Decides}
use Rattle.asl_model.specs.Tree.{Tree, Null, Boolean, Integer, Text, Array, Object, Trees, NoTrees, AndTree, Fields, NoFields, AndField, field_named}
use Rattle.asl_model.specs.Path.{Segment}
use Rattle.asl_model.specs.PathSpelling.{Spells, path_of}
use Rattle.asl_model.specs.Test.{Test, And, Or, Not, Tests, NoTests, AndTest, Rule, as_text}
use Rattle.asl_model.specs.RuleSpelling.{RuleFault, NotARule, BadPath, NextInside, named_test, main_fields, variable_in, test_or_none, first_test, fault_of, operator_faults, one_faults, variable_path_faults, variable_faults, joined_faults, test_faults, test_by, inner_faults, text_faults, top_faults, test_of, test_under, tests_under, tests_of, each_test, some_element, nested_faults, object_faults, nested_faults_under, list_faults_under, list_faults, each_faults, rule_faults, rule_from, SpellsRule}
use Rattle.asl_model.specs.RuleGrammar.{SpellsOperator, IsBeside, variable_is_beside, next_is_beside, comment_is_beside, HasNoOther, has_no_field, has_one_beside, HasOnly, only_is_first, only_is_later, StandsForTest, stands_for_and, stands_for_or, stands_for_not, stands_for_operator, StandsInside, stands_inside, StandForTests, last_test, and_test, IsTextIfThere, is_not_there, is_a_text, StandsForRule, stands_for_rule}
use Rattle.asl_model.proofs.PathReading.{path_of-Spells, Spells-path_of}
use Rattle.asl_model.proofs.FindingScopes.{append-none}
use Rattle.asl_model.proofs.RuleOperators.{text_is, operator_read, read_operator}

-- ---- the fields beside an operator

-- the test of such a name
abbrev beside : List ℕ → Bool
beside n = bytes_eq n (codes "Variable") || (bytes_eq n (codes "Next") || bytes_eq n (codes "Comment"))

-- each of them passes it
beside_passes : {n : List ℕ} → IsBeside n → beside n ≡ true
beside_passes variable_is_beside = refl
beside_passes next_is_beside = refl
beside_passes comment_is_beside = refl

-- and nothing else
passes_beside : (n : List ℕ) → beside n ≡ true → IsBeside n
passes_beside n h = go (or_cases (bytes_eq n (codes "Variable")) (bytes_eq n (codes "Next") || bytes_eq n (codes "Comment")) h)
  where
    on : (bytes_eq n (codes "Next") ≡ true) ⊎ (bytes_eq n (codes "Comment") ≡ true) → IsBeside n
    on (inl e) = subst IsBeside (sym ((bytes_eq-Decides n (codes "Next")).0 e)) next_is_beside
    on (inr e) = subst IsBeside (sym ((bytes_eq-Decides n (codes "Comment")).0 e)) comment_is_beside

    go : (bytes_eq n (codes "Variable") ≡ true) ⊎ ((bytes_eq n (codes "Next") || bytes_eq n (codes "Comment")) ≡ true) → IsBeside n
    go (inl e) = subst IsBeside (sym ((bytes_eq-Decides n (codes "Variable")).0 e)) variable_is_beside
    go (inr e) = on (or_cases (bytes_eq n (codes "Next")) (bytes_eq n (codes "Comment")) e)

-- another name fails it
not_beside : (n : List ℕ) → (IsBeside n → ⊥) → beside n ≡ false
not_beside n none = false_from_ne_true (beside n) (λ h. none (passes_beside n h))

-- where no field has another name, none is an operator
none_is_main : {fs : Fields} → HasNoOther fs → main_fields fs ≡ []
none_is_main has_no_field = refl
none_is_main (has_one_beside {n = n} {t = t} {fs = fs} h further) = ap (λ b. if b then main_fields fs else (n, t) ∷ main_fields fs) (beside_passes h) ∙ none_is_main further

-- where exactly one has, it alone is
only_is_main : {n : List ℕ} {t : Tree} {fs : Fields} → HasOnly n t fs → main_fields fs ≡ (n, t) ∷ []
only_is_main {n} {t} (only_is_first {fs = fs} none h) = ap (λ b. if b then main_fields fs else (n, t) ∷ main_fields fs) (not_beside n none) ∙ ap (λ l. (n, t) ∷ l) (none_is_main h)
only_is_main (only_is_later {m = m} {u = u} {fs = fs} h further) = ap (λ b. if b then main_fields fs else (m, u) ∷ main_fields fs) (beside_passes h) ∙ only_is_main further

-- and the other way round
main_is_none : (fs : Fields) → main_fields fs ≡ [] → HasNoOther fs
main_is_none NoFields h = has_no_field
main_is_none (AndField n t fs) h = go (beside n) refl h (main_is_none fs)
  where
    go : (b : Bool) → beside n ≡ b → (if b then main_fields fs else (n, t) ∷ main_fields fs) ≡ [] → (main_fields fs ≡ [] → HasNoOther fs) → HasNoOther (AndField n t fs)
    go true e k further = has_one_beside (passes_beside n e) (further k)
    go false e k further = absurd (cc)

-- where one alone is an operator, exactly it has another name
main_is_only : (fs : Fields) (n : List ℕ) (t : Tree) → main_fields fs ≡ (n, t) ∷ [] → HasOnly n t fs
main_is_only NoFields n t h = absurd (cc)
main_is_only (AndField m u fs) n t h = go (beside m) refl h (main_is_only fs n t)
  where
    heads : {a b : List ℕ × Tree} {x y : List (List ℕ × Tree)} → a ∷ x ≡ b ∷ y → a ≡ b
    heads e = cc

    tails : {a b : List ℕ × Tree} {x y : List (List ℕ × Tree)} → a ∷ x ≡ b ∷ y → x ≡ y
    tails e = cc

    go : (b : Bool) → beside m ≡ b → (if b then main_fields fs else (m, u) ∷ main_fields fs) ≡ (n, t) ∷ [] → (main_fields fs ≡ (n, t) ∷ [] → HasOnly n t fs) → HasOnly n t (AndField m u fs)
    go true e k further = only_is_later (passes_beside m e) (further k)
    go false e k further =
        let same = heads k in
        subst (λ p. HasOnly p.0 p.1 (AndField m u fs)) same (only_is_first (λ h. true≢false (sym (beside_passes h) ∙ e)) (main_is_none fs (tails k)))

-- ---- looking up the one field

-- its name isn't one of those beside it
only_is_other : {n : List ℕ} {t : Tree} {fs : Fields} → HasOnly n t fs → IsBeside n → ⊥
only_is_other (only_is_first none h) = none
only_is_other (only_is_later h further) = only_is_other further

-- a name that isn't one of those beside it isn't there
not_there : {fs : Fields} → HasNoOther fs → (m : List ℕ) → (IsBeside m → ⊥) → field_named m fs ≡ None
not_there has_no_field m none = refl
not_there (has_one_beside {n = n} {t = t} {fs = fs} h further) m none =
    ap (λ b. if b then Some t else field_named m fs) (false_from_ne_true (bytes_eq n m) (λ e. none (subst IsBeside ((bytes_eq-Decides n m).0 e) h)))
    ∙ not_there further m none

-- it is found by its name, and no other operator is there
only_is_found : {n : List ℕ} {t : Tree} {fs : Fields} → HasOnly n t fs → field_named n fs ≡ Some t
only_is_found {n} {t} (only_is_first {fs = fs} none h) = ap (λ b. if b then Some t else field_named n fs) ((bytes_eq-Decides n n).1 refl)
only_is_found {n} {t} (only_is_later {m = m} {u = u} {fs = fs} h further) =
    ap (λ b. if b then Some u else field_named n fs) (false_from_ne_true (bytes_eq m n) (λ e. only_is_other further (subst IsBeside ((bytes_eq-Decides m n).0 e) h)))
    ∙ only_is_found further

-- and no other operator
no_other_found : {n : List ℕ} {t : Tree} {fs : Fields} → HasOnly n t fs → (m : List ℕ) → (IsBeside m → ⊥) → bytes_eq n m ≡ false → field_named m fs ≡ None
no_other_found {n} {t} (only_is_first {fs = fs} none h) m free e = ap (λ b. if b then Some t else field_named m fs) e ∙ not_there h m free
no_other_found (only_is_later {m = k} {u = u} {fs = fs} h further) m free e =
    ap (λ b. if b then Some u else field_named m fs) (false_from_ne_true (bytes_eq k m) (λ f. free (subst IsBeside ((bytes_eq-Decides k m).0 f) h)))
    ∙ no_other_found further m free e

-- what is said of the field of a name is said of the first of that name
tests_found : (n : List ℕ) (fs : Fields) (t : Tree) → field_named n fs ≡ Some t → tests_under n fs ≡ tests_of t
tests_found n NoFields t h = absurd (none-some t h)
tests_found n (AndField m u fs) t h = go (bytes_eq m n) h (tests_found n fs t)
  where
    go : (b : Bool) → (if b then Some u else field_named n fs) ≡ Some t → (field_named n fs ≡ Some t → tests_under n fs ≡ tests_of t) → ◌≡◌ {A = Tests} (elim b [ true ↦ tests_of u | false ↦ tests_under n fs ]) (tests_of t)
    go true k below = ap tests_of (same_Some u t k)
    go false k below = below k

-- so with what is wrong with it as a list
list_faults_found : (n : List ℕ) (fs : Fields) (t : Tree) → field_named n fs ≡ Some t → list_faults_under n fs ≡ list_faults t
list_faults_found n NoFields t h = absurd (none-some t h)
list_faults_found n (AndField m u fs) t h = go (bytes_eq m n) h (list_faults_found n fs t)
  where
    go : (b : Bool) → (if b then Some u else field_named n fs) ≡ Some t → (field_named n fs ≡ Some t → list_faults_under n fs ≡ list_faults t) → ◌≡◌ {A = List RuleFault} (elim b [ true ↦ list_faults u | false ↦ list_faults_under n fs ]) (list_faults t)
    go true k below = ap list_faults (same_Some u t k)
    go false k below = below k

-- so with the test in it
test_found : (n : List ℕ) (fs : Fields) (t : Tree) → field_named n fs ≡ Some t → test_under n fs ≡ test_of t
test_found n NoFields t h = absurd (none-some t h)
test_found n (AndField m u fs) t h = go (bytes_eq m n) h (test_found n fs t)
  where
    go : (b : Bool) → (if b then Some u else field_named n fs) ≡ Some t → (field_named n fs ≡ Some t → test_under n fs ≡ test_of t) → ◌≡◌ {A = Test} (elim b [ true ↦ test_of u | false ↦ test_under n fs ]) (test_of t)
    go true k below = ap test_of (same_Some u t k)
    go false k below = below k

-- so with what is wrong with it as a rule
nested_faults_found : (n : List ℕ) (fs : Fields) (t : Tree) → field_named n fs ≡ Some t → nested_faults_under n fs ≡ nested_faults t
nested_faults_found n NoFields t h = absurd (none-some t h)
nested_faults_found n (AndField m u fs) t h = go (bytes_eq m n) h (nested_faults_found n fs t)
  where
    go : (b : Bool) → (if b then Some u else field_named n fs) ≡ Some t → (field_named n fs ≡ Some t → nested_faults_under n fs ≡ nested_faults t) → ◌≡◌ {A = List RuleFault} (elim b [ true ↦ nested_faults u | false ↦ nested_faults_under n fs ]) (nested_faults t)
    go true k below = ap nested_faults (same_Some u t k)
    go false k below = below k

-- ---- what stands is read

-- the faults of an object with a field
faults_of_object : {n : List ℕ} {t : Tree} {fs : Fields} → HasOnly n t fs → object_faults fs ≡ test_faults (field_named (codes "Variable") fs) fs (list_faults_under (codes "And") fs) (list_faults_under (codes "Or") fs) (nested_faults_under (codes "Not") fs)
faults_of_object (only_is_first none h) = refl
faults_of_object (only_is_later h further) = refl

-- the test that is read of an object
abbrev read_test : Fields → Test
read_test fs = test_by fs (tests_under (codes "And") fs) (tests_under (codes "Or") fs) (test_under (codes "Not") fs)

-- nothing is wrong with the fields of a test, and it is read so
abbrev TestRead : Fields → Test → Type 0
TestRead fs test = (object_faults fs ≡ []) × (read_test fs ≡ test)

-- without `Variable`, by the operator that is there
joined_read : {n : List ℕ} {t : Tree} (fs : Fields) → field_named (codes "Variable") fs ≡ None → HasOnly n t fs → object_faults fs ≡ joined_faults ((n, t) ∷ []) (list_faults_under (codes "And") fs) (list_faults_under (codes "Or") fs) (nested_faults_under (codes "Not") fs)
joined_read {n} {t} fs none only =
    faults_of_object only
    ∙ (ap (λ o. test_faults o fs (list_faults_under (codes "And") fs) (list_faults_under (codes "Or") fs) (nested_faults_under (codes "Not") fs)) none
    ∙ ap (λ l. joined_faults l (list_faults_under (codes "And") fs) (list_faults_under (codes "Or") fs) (nested_faults_under (codes "Not") fs)) (only_is_main only))

-- `And`, `Or` and `Not` aren't among the names beside them
free : (n : List ℕ) → beside n ≡ false → IsBeside n → ⊥
free n h b = true≢false (sym (beside_passes b) ∙ h)

-- without `Variable`, the test is the one under the operator that is there
joined_test : (fs : Fields) → field_named (codes "Variable") fs ≡ None → read_test fs ≡ (if is_some (field_named (codes "And") fs) then And (tests_under (codes "And") fs) else (if is_some (field_named (codes "Or") fs) then Or (tests_under (codes "Or") fs) else Not (test_under (codes "Not") fs)))
joined_test fs none = ap (λ o. if is_some o then first_test (unwrap_or (variable_in fs) []) (main_fields fs) else (if is_some (field_named (codes "And") fs) then And (tests_under (codes "And") fs) else (if is_some (field_named (codes "Or") fs) then Or (tests_under (codes "Or") fs) else Not (test_under (codes "Not") fs)))) none

-- the tests under `And`
read_and : (fs : Fields) (t : Tree) → field_named (codes "Variable") fs ≡ None → field_named (codes "And") fs ≡ Some t → read_test fs ≡ And (tests_under (codes "And") fs)
read_and fs t none there = joined_test fs none ∙ ap (λ o. if is_some o then And (tests_under (codes "And") fs) else (if is_some (field_named (codes "Or") fs) then Or (tests_under (codes "Or") fs) else Not (test_under (codes "Not") fs))) there

-- the tests under `Or`
read_or : (fs : Fields) (t : Tree) → field_named (codes "Variable") fs ≡ None → HasOnly (codes "Or") t fs → read_test fs ≡ Or (tests_under (codes "Or") fs)
read_or fs t none only =
    joined_test fs none
    ∙ (ap (λ o. if is_some o then And (tests_under (codes "And") fs) else (if is_some (field_named (codes "Or") fs) then Or (tests_under (codes "Or") fs) else Not (test_under (codes "Not") fs))) (no_other_found only (codes "And") (free (codes "And") refl) refl)
    ∙ ap (λ o. if is_some o then Or (tests_under (codes "Or") fs) else Not (test_under (codes "Not") fs)) (only_is_found only))

-- the test under `Not`
read_not : (fs : Fields) (t : Tree) → field_named (codes "Variable") fs ≡ None → HasOnly (codes "Not") t fs → read_test fs ≡ Not (test_under (codes "Not") fs)
read_not fs t none only =
    joined_test fs none
    ∙ (ap (λ o. if is_some o then And (tests_under (codes "And") fs) else (if is_some (field_named (codes "Or") fs) then Or (tests_under (codes "Or") fs) else Not (test_under (codes "Not") fs))) (no_other_found only (codes "And") (free (codes "And") refl) refl)
    ∙ ap (λ o. if is_some o then Or (tests_under (codes "Or") fs) else Not (test_under (codes "Not") fs)) (no_other_found only (codes "Or") (free (codes "Or") refl) refl))

-- `Variable` with an operator
operator_stands : (fs : Fields) (s n : List ℕ) (p : List Segment) (t : Tree) (test : Test) → field_named (codes "Variable") fs ≡ Some (Text s) → Spells s p → HasOnly n t fs → SpellsOperator p n t test → TestRead fs test
operator_stands fs s n p t test there path only operator = (
  faults_of_object only
      ∙ (ap (λ o. test_faults o fs (list_faults_under (codes "And") fs) (list_faults_under (codes "Or") fs) (nested_faults_under (codes "Not") fs)) there
      ∙ ap₂ ◌++◌ (ap (λ o. if is_some o then [] else BadPath ∷ []) spelled)
      (ap (λ l. one_faults l ++ operator_faults (unwrap_or (variable_in fs) []) l) main
      ∙ (ap (λ o. operator_faults (unwrap_or o []) ((n, t) ∷ [])) variable
      ∙ ap (λ r. fault_of r ++ []) read))),
  ap (λ o. if is_some o then first_test (unwrap_or (variable_in fs) []) (main_fields fs) else (if is_some (field_named (codes "And") fs) then And (tests_under (codes "And") fs) else (if is_some (field_named (codes "Or") fs) then Or (tests_under (codes "Or") fs) else Not (test_under (codes "Not") fs)))) there
      ∙ (ap₂ (λ o l. first_test (unwrap_or o []) l) variable main
      ∙ ap test_or_none read),
)
  where
    spelled : path_of s ≡ Some p
    spelled = Spells-path_of s p path

    main : main_fields fs ≡ (n, t) ∷ []
    main = only_is_main only

    variable : variable_in fs ≡ Some p
    variable = ap (λ o. option_and_then path_of (option_and_then as_text o)) there ∙ spelled

    read : named_test p n t ≡ Ok test
    read = operator_read p operator

mutual
  -- what fields stand for is read of them
  test_read : {fs : Fields} {test : Test} → StandsForTest fs test → TestRead fs test
  test_read (stands_for_and {fs = fs} {ts = ts} {tests = tests} none only h) =
      let w = tests_read h in (
        joined_read fs none only ∙ (list_faults_found (codes "And") fs (Array ts) (only_is_found only) ∙ w.0),
        read_and fs (Array ts) none (only_is_found only) ∙ ap And (tests_found (codes "And") fs (Array ts) (only_is_found only) ∙ w.1),
      )
  test_read (stands_for_or {fs = fs} {ts = ts} {tests = tests} none only h) =
      let w = tests_read h in (
        joined_read fs none only ∙ (list_faults_found (codes "Or") fs (Array ts) (only_is_found only) ∙ w.0),
        read_or fs (Array ts) none only ∙ ap Or (tests_found (codes "Or") fs (Array ts) (only_is_found only) ∙ w.1),
      )
  test_read (stands_for_not {fs = fs} {inside = inside} {test = test} none only h) =
      let w = inside_read h in (
        joined_read fs none only ∙ (nested_faults_found (codes "Not") fs (Object inside) (only_is_found only) ∙ w.0),
        read_not fs (Object inside) none only ∙ ap Not (test_found (codes "Not") fs (Object inside) (only_is_found only) ∙ w.1),
      )
  test_read (stands_for_operator {fs = fs} {s = s} {n = n} {p = p} {t = t} {test = test} there path only operator) = operator_stands fs s n p t test there path only operator

  -- so below the top
  inside_read : {fs : Fields} {test : Test} → StandsInside fs test → (nested_faults (Object fs) ≡ []) × (test_of (Object fs) ≡ test)
  inside_read (stands_inside {fs = fs} next comment h) =
      let w = test_read h in
      (ap₂ ◌++◌ (ap₂ (λ x y. (if is_some x then NextInside ∷ [] else []) ++ (if is_some y then NotARule ∷ [] else [])) next comment) w.0, w.1)

  -- so for a list
  tests_read : {ts : Trees} {tests : Tests} → StandForTests ts tests → (list_faults (Array ts) ≡ []) × (tests_of (Array ts) ≡ tests)
  tests_read (last_test h) = let w = inside_read h in (ap (λ l. l ++ []) w.0, ap (λ t. AndTest t NoTests) w.1)
  tests_read (and_test {ts = ts} h further) = let w = inside_read h in let u = tests_read further in (ap₂ ◌++◌ w.0 (append-none (some_element ts) (each_faults ts) u.0).1, ap₂ AndTest w.1 u.1)

-- a comment that is a text
comment_fits : {o : Option Tree} → IsTextIfThere o → text_faults false o ≡ []
comment_fits is_not_there = refl
comment_fits is_a_text = refl

-- a tree spells what it stands for
stands_spelled : (t : Tree) (rule : Rule) → StandsForRule t rule → SpellsRule t rule
stands_spelled t rule (stands_for_rule {fs = fs} {next = next} {test = test} there comment h) =
    let w = test_read h in
    record {
      none_wrong = ap₂ ◌++◌ (ap₂ ◌++◌ (ap (text_faults true) there) (comment_fits comment)) w.0;
      same = ap₂ (λ x y. record { test = x; next = y }) w.1 (ap (λ o. unwrap_or (option_and_then as_text o) []) there);
    }

-- ---- what is read stands

-- a list of rules without a fault; the one under a name, and the rule under a name
abbrev ListStands : Tree → Tests → Type 0
ListStands t tests = (ts : Trees) × (t ≡ Array ts) × StandForTests ts tests

-- a rule below the top without a fault
abbrev NestedStands : Tree → Test → Type 0
NestedStands t test = (fs : Fields) × (t ≡ Object fs) × StandsInside fs test

-- the list under a name
abbrev ListUnder : List ℕ → Fields → Type 0
ListUnder n fs = (t : Tree) → field_named n fs ≡ Some t → ListStands t (tests_under n fs)

-- the rule under a name
abbrev NestedUnder : List ℕ → Fields → Type 0
NestedUnder n fs = (t : Tree) → field_named n fs ≡ Some t → NestedStands t (test_under n fs)

-- what stands under a name in the first field or in the others
list_first : (n m : List ℕ) (u : Tree) (fs : Fields) → (list_faults u ≡ [] → ListStands u (tests_of u)) → (list_faults_under n fs ≡ [] → ListUnder n fs) → list_faults_under n (AndField m u fs) ≡ [] → ListUnder n (AndField m u fs)
list_first n m u fs here later h t there = go (bytes_eq m n) h there
  where
    go : (b : Bool) → ◌≡◌ {A = List RuleFault} (elim b [ true ↦ list_faults u | false ↦ list_faults_under n fs ]) [] → (if b then Some u else field_named n fs) ≡ Some t → ListStands t (elim b [ true ↦ tests_of u | false ↦ tests_under n fs ])
    go true k e = subst (λ v. ListStands v (tests_of u)) (same_Some u t e) (here k)
    go false k e = later k t e

-- so for a rule
nested_first : (n m : List ℕ) (u : Tree) (fs : Fields) → (nested_faults u ≡ [] → NestedStands u (test_of u)) → (nested_faults_under n fs ≡ [] → NestedUnder n fs) → nested_faults_under n (AndField m u fs) ≡ [] → NestedUnder n (AndField m u fs)
nested_first n m u fs here later h t there = go (bytes_eq m n) h there
  where
    go : (b : Bool) → ◌≡◌ {A = List RuleFault} (elim b [ true ↦ nested_faults u | false ↦ nested_faults_under n fs ]) [] → (if b then Some u else field_named n fs) ≡ Some t → NestedStands t (elim b [ true ↦ test_of u | false ↦ test_under n fs ])
    go true k e = subst (λ v. NestedStands v (test_of u)) (same_Some u t e) (here k)
    go false k e = later k t e

-- with `Variable`
variable_stands : (fs : Fields) (t : Tree) → field_named (codes "Variable") fs ≡ Some t → variable_faults t fs ≡ [] → StandsForTest fs (read_test fs)
variable_stands fs t there h = text (as_text t) refl parts.0
  where
    parts : (variable_path_faults (as_text t) ≡ []) × ((one_faults (main_fields fs) ++ operator_faults (unwrap_or (variable_in fs) []) (main_fields fs)) ≡ [])
    parts = append-none (variable_path_faults (as_text t)) (one_faults (main_fields fs) ++ operator_faults (unwrap_or (variable_in fs) []) (main_fields fs)) h

    operator : (s : List ℕ) (p : List Segment) → t ≡ Text s → path_of s ≡ Some p → (n : List ℕ) (u : Tree) → main_fields fs ≡ (n, u) ∷ [] → (r : Result Test RuleFault) → named_test p n u ≡ r → fault_of r ≡ [] → StandsForTest fs (read_test fs)
    operator s p is spelled n u main (Ok test) e k =
        let at : field_named (codes "Variable") fs ≡ Some (Text s) = there ∙ ap Some is in
        let path = path_of-Spells s p spelled in
        let only = main_is_only fs n u main in
        let names = read_operator p n u test e in
        subst (StandsForTest fs) (sym (operator_stands fs s n p u test at path only names).1) (stands_for_operator at path only names)
    operator s p is spelled n u main (Err fault) e k = absurd (cc)

    one : (s : List ℕ) (p : List Segment) → t ≡ Text s → path_of s ≡ Some p → (l : List (List ℕ × Tree)) → main_fields fs ≡ l → (one_faults l ++ operator_faults (unwrap_or (variable_in fs) []) l) ≡ [] → StandsForTest fs (read_test fs)
    one s p is spelled [] e k = absurd (cc)
    one s p is spelled (f ∷ []) e k =
        let variable : variable_in fs ≡ Some p = ap (λ o. option_and_then path_of (option_and_then as_text o)) (there ∙ ap Some is) ∙ spelled in
        let faults = append-none (fault_of (named_test (unwrap_or (variable_in fs) []) f.0 f.1)) [] k in
        operator s p is spelled f.0 f.1 e (named_test p f.0 f.1) refl (ap (λ o. fault_of (named_test (unwrap_or o []) f.0 f.1)) (sym variable) ∙ faults.0)
    one s p is spelled (f ∷ g ∷ l) e k = absurd (cc)

    path : (s : List ℕ) → t ≡ Text s → (o : Option (List Segment)) → path_of s ≡ o → (if is_some o then [] else BadPath ∷ []) ≡ [] → StandsForTest fs (read_test fs)
    path s is None e k = absurd (cc)
    path s is (Some p) e k = one s p is e (main_fields fs) refl parts.1

    text : (o : Option (List ℕ)) → as_text t ≡ o → variable_path_faults o ≡ [] → StandsForTest fs (read_test fs)
    text None e k = absurd (cc)
    text (Some s) e k = path s (text_is t s e) (path_of s) refl k

-- without it
joined_stands : (fs : Fields) → field_named (codes "Variable") fs ≡ None → (list_faults_under (codes "And") fs ≡ [] → ListUnder (codes "And") fs) → (list_faults_under (codes "Or") fs ≡ [] → ListUnder (codes "Or") fs) → (nested_faults_under (codes "Not") fs ≡ [] → NestedUnder (codes "Not") fs) → (l : List (List ℕ × Tree)) → main_fields fs ≡ l → joined_faults l (list_faults_under (codes "And") fs) (list_faults_under (codes "Or") fs) (nested_faults_under (codes "Not") fs) ≡ [] → StandsForTest fs (read_test fs)
joined_stands fs none ands ors nots [] e h = absurd (cc)
joined_stands fs none ands ors nots (f ∷ g ∷ l) e h = absurd (cc)
joined_stands fs none ands ors nots (f ∷ []) e h = by_and (bytes_eq f.0 (codes "And")) refl h
  where
    only : (n : List ℕ) → f.0 ≡ n → HasOnly n f.1 fs
    only n same = subst (λ m. HasOnly m f.1 fs) same (main_is_only fs f.0 f.1 e)

    by_not : (b : Bool) → bytes_eq f.0 (codes "Not") ≡ b → (if b then nested_faults_under (codes "Not") fs else NotARule ∷ []) ≡ [] → StandsForTest fs (read_test fs)
    by_not true same k =
        let o = only (codes "Not") ((bytes_eq-Decides f.0 (codes "Not")).0 same) in
        let w = nots k f.1 (only_is_found o) in
        subst (StandsForTest fs) (sym (read_not fs f.1 none o)) (stands_for_not none (subst (λ t. HasOnly (codes "Not") t fs) w.1 o) w.2)
    by_not false same k = absurd (cc)

    by_or : (b : Bool) → bytes_eq f.0 (codes "Or") ≡ b → (if b then list_faults_under (codes "Or") fs else (if bytes_eq f.0 (codes "Not") then nested_faults_under (codes "Not") fs else NotARule ∷ [])) ≡ [] → StandsForTest fs (read_test fs)
    by_or true same k =
        let o = only (codes "Or") ((bytes_eq-Decides f.0 (codes "Or")).0 same) in
        let w = ors k f.1 (only_is_found o) in
        subst (StandsForTest fs) (sym (read_or fs f.1 none o)) (stands_for_or none (subst (λ t. HasOnly (codes "Or") t fs) w.1 o) w.2)
    by_or false same k = by_not (bytes_eq f.0 (codes "Not")) refl k

    by_and : (b : Bool) → bytes_eq f.0 (codes "And") ≡ b → (if b then list_faults_under (codes "And") fs else (if bytes_eq f.0 (codes "Or") then list_faults_under (codes "Or") fs else (if bytes_eq f.0 (codes "Not") then nested_faults_under (codes "Not") fs else NotARule ∷ []))) ≡ [] → StandsForTest fs (read_test fs)
    by_and true same k =
        let o = only (codes "And") ((bytes_eq-Decides f.0 (codes "And")).0 same) in
        let w = ands k f.1 (only_is_found o) in
        subst (StandsForTest fs) (sym (read_and fs f.1 none (only_is_found o))) (stands_for_and none (subst (λ t. HasOnly (codes "And") t fs) w.1 o) w.2)
    by_and false same k = by_or (bytes_eq f.0 (codes "Or")) refl k

-- by `Variable`
fields_stand : (fs : Fields) → (list_faults_under (codes "And") fs ≡ [] → ListUnder (codes "And") fs) → (list_faults_under (codes "Or") fs ≡ [] → ListUnder (codes "Or") fs) → (nested_faults_under (codes "Not") fs ≡ [] → NestedUnder (codes "Not") fs) → test_faults (field_named (codes "Variable") fs) fs (list_faults_under (codes "And") fs) (list_faults_under (codes "Or") fs) (nested_faults_under (codes "Not") fs) ≡ [] → StandsForTest fs (read_test fs)
fields_stand fs ands ors nots h = go (field_named (codes "Variable") fs) refl h
  where
    go : (o : Option Tree) → field_named (codes "Variable") fs ≡ o → test_faults o fs (list_faults_under (codes "And") fs) (list_faults_under (codes "Or") fs) (nested_faults_under (codes "Not") fs) ≡ [] → StandsForTest fs (read_test fs)
    go None e k = joined_stands fs e ands ors nots (main_fields fs) refl k
    go (Some t) e k = variable_stands fs t e k

-- a field that may not be there
absent : (o : Option Tree) (fault : RuleFault) → (if is_some o then fault ∷ [] else []) ≡ [] → o ≡ None
absent None fault h = refl
absent (Some t) fault h = absurd (cc)

mutual
  -- what is read below the top stands
  nested_stands : (t : Tree) → nested_faults t ≡ [] → NestedStands t (test_of t)
  nested_stands Null h = absurd (cc)
  nested_stands (Boolean b) h = absurd (cc)
  nested_stands (Integer n) h = absurd (cc)
  nested_stands (Text s) h = absurd (cc)
  nested_stands (Array ts) h = absurd (cc)
  nested_stands (Object fs) h =
      let parts = append-none (inner_faults fs) (object_faults fs) h in
      let beside = append-none (if is_some (field_named (codes "Next") fs) then NextInside ∷ [] else []) (if is_some (field_named (codes "Comment") fs) then NotARule ∷ [] else []) parts.0 in
      (fs, refl, stands_inside (absent (field_named (codes "Next") fs) NextInside beside.0) (absent (field_named (codes "Comment") fs) NotARule beside.1) (object_stands fs parts.1))

  -- what is read of fields stands
  object_stands : (fs : Fields) → object_faults fs ≡ [] → StandsForTest fs (read_test fs)
  object_stands NoFields h = absurd (cc)
  object_stands (AndField n t fs) h =
      fields_stand (AndField n t fs)
      (list_first (codes "And") n t fs (list_stands t) (list_under_stands fs (codes "And")))
      (list_first (codes "Or") n t fs (list_stands t) (list_under_stands fs (codes "Or")))
      (nested_first (codes "Not") n t fs (nested_stands t) (nested_under_stands fs (codes "Not")))
      h

  -- so under a name
  list_under_stands : (fs : Fields) (n : List ℕ) → list_faults_under n fs ≡ [] → ListUnder n fs
  list_under_stands NoFields n h t e = absurd (none-some t e)
  list_under_stands (AndField m u fs) n h t e = list_first n m u fs (list_stands u) (list_under_stands fs n) h t e

  -- so for a rule under a name
  nested_under_stands : (fs : Fields) (n : List ℕ) → nested_faults_under n fs ≡ [] → NestedUnder n fs
  nested_under_stands NoFields n h t e = absurd (none-some t e)
  nested_under_stands (AndField m u fs) n h t e = nested_first n m u fs (nested_stands u) (nested_under_stands fs n) h t e

  -- so for a list
  list_stands : (t : Tree) → list_faults t ≡ [] → ListStands t (tests_of t)
  list_stands Null h = absurd (cc)
  list_stands (Boolean b) h = absurd (cc)
  list_stands (Integer n) h = absurd (cc)
  list_stands (Text s) h = absurd (cc)
  list_stands (Array ts) h = let parts = append-none (some_element ts) (each_faults ts) h in (ts, refl, each_stands ts parts.0 parts.1)
  list_stands (Object fs) h = absurd (cc)

  -- so for each of its elements
  each_stands : (ts : Trees) → some_element ts ≡ [] → each_faults ts ≡ [] → StandForTests ts (each_test ts)
  each_stands NoTrees some h = absurd (cc)
  each_stands (AndTree t NoTrees) some h =
      let w = nested_stands t (append-none (nested_faults t) [] h).0 in
      subst (λ u. StandForTests (AndTree u NoTrees) (AndTest (test_of t) NoTests)) (sym w.1) (last_test w.2)
  each_stands (AndTree t (AndTree u ts)) some h =
      let parts = append-none (nested_faults t) (each_faults (AndTree u ts)) h in
      let w = nested_stands t parts.0 in
      subst (λ v. StandForTests (AndTree v (AndTree u ts)) (AndTest (test_of t) (each_test (AndTree u ts)))) (sym w.1) (and_test w.2 (each_stands (AndTree u ts) refl parts.1))

-- a tree stands for what it spells
spelled_stands : (t : Tree) (rule : Rule) → SpellsRule t rule → StandsForRule t rule
spelled_stands t rule s = subst (StandsForRule t) s.same (go t s.none_wrong)
  where
    next : (o : Option Tree) → text_faults true o ≡ [] → (n : List ℕ) × (o ≡ Some (Text n))
    next None h = absurd (cc)
    next (Some (Text n)) h = (n, refl)
    next (Some Null) h = absurd (cc)
    next (Some (Boolean b)) h = absurd (cc)
    next (Some (Integer n)) h = absurd (cc)
    next (Some (Array ts)) h = absurd (cc)
    next (Some (Object fs)) h = absurd (cc)

    comment : (o : Option Tree) → text_faults false o ≡ [] → IsTextIfThere o
    comment None h = is_not_there
    comment (Some (Text n)) h = is_a_text
    comment (Some Null) h = absurd (cc)
    comment (Some (Boolean b)) h = absurd (cc)
    comment (Some (Integer n)) h = absurd (cc)
    comment (Some (Array ts)) h = absurd (cc)
    comment (Some (Object fs)) h = absurd (cc)

    go : (u : Tree) → rule_faults u ≡ [] → StandsForRule u (rule_from u)
    go Null h = absurd (cc)
    go (Boolean b) h = absurd (cc)
    go (Integer n) h = absurd (cc)
    go (Text w) h = absurd (cc)
    go (Array ts) h = absurd (cc)
    go (Object fs) h =
        let parts = append-none (top_faults fs) (object_faults fs) h in
        let top = append-none (text_faults true (field_named (codes "Next") fs)) (text_faults false (field_named (codes "Comment") fs)) parts.0 in
        let named = next (field_named (codes "Next") fs) top.0 in
        subst (λ m. StandsForRule (Object fs) (record { test = test_of (Object fs); next = m })) (sym (ap (λ o. unwrap_or (option_and_then as_text o) []) named.1))
        (stands_for_rule {next = named.0} named.1 (comment (field_named (codes "Comment") fs) top.1) (object_stands fs parts.1))

-- both ways
pub rule_exactly : (t : Tree) (rule : Rule) → SpellsRule t rule ↔ StandsForRule t rule
rule_exactly t rule = (spelled_stands t rule, stands_spelled t rule)
