-- The doubtful path of a rule is one that its test looks up; and where such a path names nothing in a tree, the rule has
-- a doubtful path.
use Rattle.std.proofs.Common.{◌≡◌, Bool, true, false, List, Result, Ok, Err, IsTrue, if◌then◌else◌, refl, sym, subst, ◌∙◌, ◌⊎◌, inl, inr}
use Rattle.std.proofs.lemmas.Bool.{false≢true}
use Rattle.asl_model.specs.Tree.{Tree}
use Rattle.asl_model.specs.Path.{Segment}
use Rattle.asl_model.specs.Test.{Test, And, Or, Not, Compare, StringMatches, IsOfKind, IsPresent, Tests, NoTests, AndTest, Comparison, Operand, Constant, AtPath, ValueKind}
use Rattle.asl_model.specs.Shape.{Shape, Never, inhabited}
use Rattle.asl_model.specs.ShapeFlow.{look, DoubtfulPath, found, by_kind, narrowed_at, where_found, operand_shape, where_inhabited, narrowed_by, true_of, each_true_of, each_found, rule_shape}
use Rattle.asl_model.specs.Missing.{IsMissing}
use Rattle.asl_model.specs.FindingRules.{LooksUpIn, in_comparison, in_operand, in_string_matches, in_kind_test, in_not, in_first_of_or, in_later_of_or, in_first_of_and, in_later_of_and}
use Rattle.asl_model.proofs.ShapeInhabited.{has-inhabited}
use Rattle.asl_model.proofs.ShapeLook.{found-looked}
use Rattle.asl_model.proofs.ShapeNarrow.{narrows}
use Rattle.asl_model.proofs.DoubtsShown.{missing-told}

-- where the shape that a path is looked up in has trees, so has the one that the test is evaluated on
looked-inhabited : {test : Test} {s : Shape} {path : List Segment} {u : Shape} → LooksUpIn test s path u → IsTrue (inhabited u) → IsTrue (inhabited s)
looked-inhabited in_comparison live = live
looked-inhabited in_operand live = live
looked-inhabited in_string_matches live = live
looked-inhabited in_kind_test live = live
looked-inhabited (in_not looks) live = looked-inhabited looks live
looked-inhabited (in_first_of_or looks) live = looked-inhabited looks live
looked-inhabited (in_later_of_or looks) live = looked-inhabited looks live
looked-inhabited (in_first_of_and looks) live = looked-inhabited looks live
looked-inhabited (in_later_of_and {test = test} {s = s} {narrowed = narrowed} e some looks) live = go (inhabited s) refl e
  where
    go : (test_live : Bool) → inhabited s ≡ test_live → rule_shape test s ≡ Ok narrowed → IsTrue (inhabited s)
    go true at e' = at
    go false at e' =
        let never : Ok Never ≡ Ok narrowed = rw at at e' in
        let is : Never ≡ narrowed = cc in
        absurd (false≢true (subst (λ (z : Shape). IsTrue (inhabited z)) (sym is) some))

-- a doubtful path is one in a shape that has trees
doubtful-inhabited : (path : List Segment) (s : Shape) (doubtful : DoubtfulPath) → found path s ≡ Err doubtful → IsTrue (inhabited s)
doubtful-inhabited path s doubtful e = go (inhabited s) refl
  where
    go : (live : Bool) → inhabited s ≡ live → IsTrue (inhabited s)
    go true at = at
    go false at =
        let never : Ok Never ≡ Err doubtful = rw at at e in
        absurd (cc)

-- one of the paths that the test looks up is doubtful
abbrev Doubts : Test → Shape → DoubtfulPath → Type 0
Doubts test s doubtful = (path : List Segment) × (u : Shape) × LooksUpIn test s path u × (found path u ≡ Err doubtful)

first-or-second : (r q : Result Shape DoubtfulPath) (doubtful : DoubtfulPath) → where_found r q ≡ Err doubtful → (r ≡ Err doubtful) ⊎ (q ≡ Err doubtful)
first-or-second (Ok part) q doubtful e = inr e
first-or-second (Err d) q doubtful e = inl e

alone-doubtful : (r : Result Shape DoubtfulPath) (s : Shape) (doubtful : DoubtfulPath) → where_found r (Ok s) ≡ Err doubtful → r ≡ Err doubtful
alone-doubtful (Ok part) s doubtful e = absurd (cc)
alone-doubtful (Err d) s doubtful e = e

operand-doubtful : (operand : Operand) (path : List Segment) (comparison : Comparison) (s : Shape) (doubtful : DoubtfulPath) → operand_shape operand s ≡ Err doubtful → Doubts (Compare path comparison operand) s doubtful
operand-doubtful (Constant t) path comparison s doubtful e = absurd (cc)
operand-doubtful (AtPath other) path comparison s doubtful e = (other, s, in_operand, e)

-- what is found can be narrowed, so a test of a kind has the doubt of its path
kind-doubtful : (path : List Segment) (kind : ValueKind) (expected : Bool) (s : Shape) (doubtful : DoubtfulPath) → IsTrue (inhabited s) → narrowed_at path (by_kind kind expected) s (found path s) ≡ Err doubtful → found path s ≡ Err doubtful
kind-doubtful path kind expected s doubtful live e = go (found path s) refl e
  where
    go : (answer : Result Shape DoubtfulPath) → found path s ≡ answer → narrowed_at path (by_kind kind expected) s answer ≡ Err doubtful → answer ≡ Err doubtful
    go (Ok part) at e' =
        let looked : look path s ≡ Ok part = found-looked path s part at in
        let placed = narrows path (by_kind kind expected part) s part (rw live at looked) in
        let none : Ok placed.0 ≡ Err doubtful = rw (placed.1) at e' in
        absurd (cc)
    go (Err d) at e' = e'

-- the test's doubt, where the shape has trees
inhabited-doubtful : (go_on : Shape → Result Shape DoubtfulPath) (s : Shape) (doubtful : DoubtfulPath) → where_inhabited go_on s ≡ Err doubtful → IsTrue (inhabited s) × (go_on s ≡ Err doubtful)
inhabited-doubtful go_on s doubtful e = go (inhabited s) refl e
  where
    go : (live : Bool) → inhabited s ≡ live → (if live then go_on s else Ok Never) ≡ Err doubtful → IsTrue (inhabited s) × (go_on s ≡ Err doubtful)
    go true at e' = (at, e')
    go false at e' = absurd (cc)

mutual
  test-doubtful : (test : Test) (s : Shape) (doubtful : DoubtfulPath) → IsTrue (inhabited s) → true_of test s ≡ Err doubtful → Doubts test s doubtful
  test-doubtful (And tests) s doubtful live e = all-doubtful tests s doubtful e
  test-doubtful (Or tests) s doubtful live e = some-doubtful tests s doubtful live (alone-doubtful (each_found tests s) s doubtful e)
  test-doubtful (Not test) s doubtful live e =
      let one = test-doubtful test s doubtful live (alone-doubtful (true_of test s) s doubtful e) in
      (one.0, one.1, in_not one.2, one.3)
  test-doubtful (Compare path comparison operand) s doubtful live e = go (first-or-second (found path s) (where_found (operand_shape operand s) (Ok s)) doubtful e)
    where
      go : (found path s ≡ Err doubtful) ⊎ (where_found (operand_shape operand s) (Ok s) ≡ Err doubtful) → Doubts (Compare path comparison operand) s doubtful
      go (inl first) = (path, s, in_comparison, first)
      go (inr second) = operand-doubtful operand path comparison s doubtful (alone-doubtful (operand_shape operand s) s doubtful second)
  test-doubtful (StringMatches path pattern) s doubtful live e = (path, s, in_string_matches, alone-doubtful (found path s) s doubtful e)
  test-doubtful (IsOfKind path kind expected) s doubtful live e = (path, s, in_kind_test, kind-doubtful path kind expected s doubtful live e)
  test-doubtful (IsPresent path expected) s doubtful live e = absurd (cc)

  all-doubtful : (tests : Tests) (s : Shape) (doubtful : DoubtfulPath) → each_true_of tests s ≡ Err doubtful → Doubts (And tests) s doubtful
  all-doubtful NoTests s doubtful e = absurd (cc)
  all-doubtful (AndTest test others) s doubtful e = go (where_inhabited (true_of test) s) refl e (test-doubtful test s doubtful) (λ narrowed. all-doubtful others narrowed doubtful)
    where
      go : (answer : Result Shape DoubtfulPath) → where_inhabited (true_of test) s ≡ answer → narrowed_by (each_true_of others) answer ≡ Err doubtful → (IsTrue (inhabited s) → true_of test s ≡ Err doubtful → Doubts test s doubtful) → ((narrowed : Shape) → each_true_of others narrowed ≡ Err doubtful → Doubts (And others) narrowed doubtful) → Doubts (And (AndTest test others)) s doubtful
      go (Ok narrowed) at e' first further =
          let one = further narrowed e' in
          (one.0, one.1, in_later_of_and at (looked-inhabited one.2 (doubtful-inhabited one.0 one.1 doubtful one.3)) one.2, one.3)
      go (Err d) at e' first further =
          let here = inhabited-doubtful (true_of test) s doubtful (at ∙ e') in
          let one = first here.0 here.1 in
          (one.0, one.1, in_first_of_and one.2, one.3)

  some-doubtful : (tests : Tests) (s : Shape) (doubtful : DoubtfulPath) → IsTrue (inhabited s) → each_found tests s ≡ Err doubtful → Doubts (Or tests) s doubtful
  some-doubtful NoTests s doubtful live e = absurd (cc)
  some-doubtful (AndTest test others) s doubtful live e = go (first-or-second (true_of test s) (each_found others s) doubtful e) (test-doubtful test s doubtful live) (some-doubtful others s doubtful live)
    where
      go : (true_of test s ≡ Err doubtful) ⊎ (each_found others s ≡ Err doubtful) → (true_of test s ≡ Err doubtful → Doubts test s doubtful) → (each_found others s ≡ Err doubtful → Doubts (Or others) s doubtful) → Doubts (Or (AndTest test others)) s doubtful
      go (inl at) first further =
          let one = first at in
          (one.0, one.1, in_first_of_or one.2, one.3)
      go (inr at) first further =
          let one = further at in
          (one.0, one.1, in_later_of_or one.2, one.3)

-- the doubtful path of a rule is one that its test looks up
pub rule-doubtful : (test : Test) (s : Shape) (doubtful : DoubtfulPath) → rule_shape test s ≡ Err doubtful → Doubts test s doubtful
rule-doubtful test s doubtful e =
    let here = inhabited-doubtful (true_of test) s doubtful e in
    test-doubtful test s doubtful here.0 here.1

-- an answer that tells a doubtful path
abbrev Tells : Result Shape DoubtfulPath → Type 0
Tells answer = (doubtful : DoubtfulPath) × (answer ≡ Err doubtful)

first-tells : (r q : Result Shape DoubtfulPath) → Tells r → Tells (where_found r q)
first-tells r q tells = (tells.0, rw tells.1 refl)

second-tells : (r q : Result Shape DoubtfulPath) → Tells q → Tells (where_found r q)
second-tells (Ok part) q tells = tells
second-tells (Err d) q tells = (d, refl)

narrowed-tells : (path : List Segment) (narrow : Shape → Shape) (s : Shape) (r : Result Shape DoubtfulPath) → Tells r → Tells (narrowed_at path narrow s r)
narrowed-tells path narrow s r tells = (tells.0, rw tells.1 refl)

test-tells : {test : Test} {s : Shape} {path : List Segment} {u : Shape} → LooksUpIn test s path u → IsTrue (inhabited u) → Tells (found path u) → Tells (true_of test s)
test-tells (in_comparison {path = path} {operand = operand} {s = s}) live tells = first-tells (found path s) (where_found (operand_shape operand s) (Ok s)) tells
test-tells (in_operand {path = path} {other = other} {s = s}) live tells = second-tells (found path s) (where_found (found other s) (Ok s)) (first-tells (found other s) (Ok s) tells)
test-tells (in_string_matches {path = path} {s = s}) live tells = first-tells (found path s) (Ok s) tells
test-tells (in_kind_test {path = path} {kind = kind} {expected = expected} {s = s}) live tells = narrowed-tells path (by_kind kind expected) s (found path s) tells
test-tells (in_not {test = test} {s = s} looks) live tells = first-tells (true_of test s) (Ok s) (test-tells looks live tells)
test-tells (in_first_of_or {test = test} {others = others} {s = s} looks) live tells = first-tells (where_found (true_of test s) (each_found others s)) (Ok s) (first-tells (true_of test s) (each_found others s) (test-tells looks live tells))
test-tells (in_later_of_or {test = test} {others = others} {s = s} looks) live tells =
    let one = test-tells looks live tells in
    first-tells (where_found (true_of test s) (each_found others s)) (Ok s) (second-tells (true_of test s) (each_found others s) (one.0, alone-doubtful (each_found others s) s one.0 one.1))
test-tells (in_first_of_and {test = test} {others = others} {s = s} looks) live tells =
    let one = test-tells looks live tells in
    (one.0, rw (looked-inhabited looks live, one.1) refl)
test-tells (in_later_of_and {others = others} e some looks) live tells =
    let one = test-tells looks live tells in
    (one.0, rw e (one.1))

-- where a path that its test looks up names nothing in a tree, the rule has a doubtful path
pub rule-missing : {test : Test} {s : Shape} {path : List Segment} {u : Shape} {t : Tree} → LooksUpIn test s path u → IsMissing path u t → (doubtful : DoubtfulPath) × (rule_shape test s ≡ Err doubtful)
rule-missing {path = path} {u = u} {t = t} looks none =
    let live : IsTrue (inhabited u) = has-inhabited u t none.has in
    let one = test-tells looks live (missing-told path u t none) in
    (one.0, rw (looked-inhabited looks live) (one.1))
