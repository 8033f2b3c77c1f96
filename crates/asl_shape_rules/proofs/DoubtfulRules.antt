-- A path that a rule tells as a doubtful one is refused by the look-up in the shape that is told with it.
use Rattle.std.proofs.Common.{◌≡◌, ℕ, List, [], ◌∷◌, Bool, true, false, Result, Ok, Err, IsErr, IsOk, refl, subst}
use Rattle.asl_model.proofs.ShapeNarrow.{narrows}
use Rattle.asl_model.specs.Path.{Segment}
use Rattle.asl_model.specs.Shape.{Shape, Never, inhabited}
use Rattle.asl_model.specs.ShapeFlow.{DoubtfulPath, look, or_doubtful, found, put, by_kind, narrowed_at, where_found, operand_shape, where_inhabited, narrowed_by, true_of, each_true_of, each_found, rule_shape}
use Rattle.asl_model.specs.Test.{Test, And, Or, Not, Compare, StringMatches, IsOfKind, IsPresent, Tests, NoTests, AndTest, Operand, Constant, AtPath, ValueKind}
use Rattle.asl_shape_paths.proofs.DoubtfulPaths.{IsRefused, found_refused}

-- a path that is told
pub told_refused : (answer : Result Shape DoubtfulPath) (d : DoubtfulPath) → IsRefused answer → answer ≡ Err d → IsErr (look d.path d.shape)
told_refused answer d h is = subst IsRefused is h

-- ---- what is put where a path is found

-- nothing doesn't fit in a shape that no tree has
pub put_never : (path : List Segment) (w s : Shape) → inhabited s ≡ false → put path w s ≡ Ok Never
put_never [] w s none = rw none refl
put_never (segment ∷ path) w s none = rw none refl

-- where a path is found, whatever is put there fits
pub put_found : (path : List Segment) (w s part : Shape) → look path s ≡ Ok part → IsOk (put path w s)
put_found path w s part is = go (inhabited s) refl
  where
    go : (live : Bool) → inhabited s ≡ live → IsOk (put path w s)
    go false none = rw (put_never path w s none) refl
    go true live =
        let inner = narrows path w s part (rw live at is) in
        rw (inner.1) refl

-- so a test of a kind tells the path of the look-up, if it tells one
pub kind_found : (path : List Segment) (kind : ValueKind) (wanted : Bool) (s : Shape) (answer : Result Shape DoubtfulPath) → where_found (narrowed_at path (by_kind kind wanted) s (found path s)) answer ≡ where_found (found path s) answer
kind_found path kind wanted s answer = go (look path s) refl
  where
    fits : (part : Shape) (r : Result Shape ℕ) → IsOk r → where_found (or_doubtful path s r) answer ≡ answer
    fits part (Ok t) ok = refl
    fits part (Err at) ok = absurd (cc)

    go : (r : Result Shape ℕ) → look path s ≡ r → where_found (narrowed_at path (by_kind kind wanted) s (or_doubtful path s r)) answer ≡ where_found (or_doubtful path s r) answer
    go (Ok part) is = fits part (put path (by_kind kind wanted part) s) (put_found path (by_kind kind wanted part) s part is)
    go (Err at) is = refl

kind_refused : (path : List Segment) (kind : ValueKind) (wanted : Bool) (s : Shape) → IsRefused (narrowed_at path (by_kind kind wanted) s (found path s))
kind_refused path kind wanted s = go (look path s) refl (found_refused path s)
  where
    fits : (part : Shape) (r : Result Shape ℕ) → IsOk r → IsRefused (or_doubtful path s r)
    fits part (Ok t) ok = tt
    fits part (Err at) ok = absurd (cc)

    go : (r : Result Shape ℕ) → look path s ≡ r → IsRefused (or_doubtful path s r) → IsRefused (narrowed_at path (by_kind kind wanted) s (or_doubtful path s r))
    go (Ok part) is h = fits part (put path (by_kind kind wanted part) s) (put_found path (by_kind kind wanted part) s part is)
    go (Err at) is h = h

-- ---- rules

then_refused : (first second : Result Shape DoubtfulPath) → IsRefused first → IsRefused second → IsRefused (where_found first second)
then_refused (Ok part) second h k = k
then_refused (Err d) second h k = h

next_refused : (go_on : Shape → Result Shape DoubtfulPath) (first : Result Shape DoubtfulPath) → IsRefused first → ((s : Shape) → IsRefused (go_on s)) → IsRefused (narrowed_by go_on first)
next_refused go_on (Ok s) h k = k s
next_refused go_on (Err d) h k = h

inhabited_refused : (go_on : Shape → Result Shape DoubtfulPath) (s : Shape) → IsRefused (go_on s) → IsRefused (where_inhabited go_on s)
inhabited_refused go_on s h = go (inhabited s) refl
  where
    go : (live : Bool) → inhabited s ≡ live → IsRefused (where_inhabited go_on s)
    go true live = rw live h
    go false none = rw none tt

operand_refused : (operand : Operand) (s : Shape) → IsRefused (operand_shape operand s)
operand_refused (Constant t) s = tt
operand_refused (AtPath path) s = found_refused path s

mutual
  true_refused : (test : Test) (s : Shape) → IsRefused (true_of test s)
  true_refused (And tests) s = each_refused tests s
  true_refused (Or tests) s = then_refused (each_found tests s) (Ok s) (all_refused tests s) tt
  true_refused (Not test) s = then_refused (true_of test s) (Ok s) (true_refused test s) tt
  true_refused (Compare path comparison operand) s = then_refused (found path s) (where_found (operand_shape operand s) (Ok s)) (found_refused path s) (then_refused (operand_shape operand s) (Ok s) (operand_refused operand s) tt)
  true_refused (StringMatches path pattern) s = then_refused (found path s) (Ok s) (found_refused path s) tt
  true_refused (IsOfKind path kind expected) s = kind_refused path kind expected s
  true_refused (IsPresent path expected) s = tt

  each_refused : (tests : Tests) (s : Shape) → IsRefused (each_true_of tests s)
  each_refused NoTests s = tt
  each_refused (AndTest test others) s = next_refused (each_true_of others) (where_inhabited (true_of test) s) (inhabited_refused (true_of test) s (true_refused test s)) (λ t. each_refused others t)

  all_refused : (tests : Tests) (s : Shape) → IsRefused (each_found tests s)
  all_refused NoTests s = tt
  all_refused (AndTest test others) s = then_refused (true_of test s) (each_found others s) (true_refused test s) (all_refused others s)

-- so it is with what a rule tells
pub rule_refused : (test : Test) (s : Shape) → IsRefused (rule_shape test s)
rule_refused test s = inhabited_refused (true_of test) s (true_refused test s)
