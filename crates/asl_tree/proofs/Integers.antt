-- Which integers the token of a number writes.
use Rattle.std.proofs.Common.{◌≡◌, ◌<◌, ◌≤◌, ◌^◌, ◌==◌, ℕ, zero, suc, ℤ, pos, neg_ℤ, List, drop, true, false, Option, Some, None, IfSome, option_and_then, int_lt, slice_index, FitsSigned, w64, lt-ltb, le-leb, eq-eqb, refl, ◌∙◌, arith}
use Rattle.std.specs.Prelude.{SomeIff}
use Rattle.std.proofs.lemmas.Int.{ints}
use Rattle.fast_float.specs.Text.{Parts, IsInteger, digits_of, with_sign, minus, scan}
use Rattle.serde_json.specs.Find.{as_i64}
use Rattle.serde_json.specs.Read.{is_integer, number_from, number_of}

integer_is : (p : Parts) → IsInteger p → is_integer p ≡ true
integer_is p h = rw (lt-ltb _ _ h.0, h.1, eq-eqb _ _ h.2) refl

-- digits of which the number fits
pub unsigned_there : (p : Parts) (o : Option ℤ) → SomeIff o (IsInteger p × FitsSigned w64 (with_sign false (digits_of p))) (with_sign false (digits_of p)) → IfSome o (λ n. option_and_then as_i64 (number_from false p) ≡ Some n)
unsigned_there p None h = tt
unsigned_there p (Some n) h =
    let small : digits_of p < 2 ^ 63 = omega (arith, ints, h.0.1) in
    rw (integer_is p h.0.0, lt-ltb (digits_of p) (2 ^ 64) (omega arith), h.1) (rw (lt-ltb (digits_of p) (2 ^ 63) small) refl)

above_zero : (d : ℕ) → int_lt (neg_ℤ (pos d)) (pos 0) ≡ true → 0 < d
above_zero zero h = absurd (cc)
above_zero (suc d) h = omega arith

at_most : (d : ℕ) → FitsSigned w64 (neg_ℤ (pos d)) → d ≤ 2 ^ 63
at_most zero h = omega arith
at_most (suc d) h = omega (arith, ints, h)

-- digits behind a minus sign of which the number fits and isn't 0
pub negative_there : (p : Parts) (n : ℤ) → IsInteger p → FitsSigned w64 (with_sign true (digits_of p)) → n ≡ with_sign true (digits_of p) → int_lt n (pos 0) ≡ true → option_and_then as_i64 (number_from true p) ≡ Some n
negative_there p n whole fits is below =
    let some : 0 < digits_of p = above_zero (digits_of p) (rw is at below) in
    rw (integer_is p whole, lt-ltb _ _ some, le-leb _ _ (at_most (digits_of p) fits), is) refl

pub without_sign : (s : List ℕ) → (slice_index s 0 == minus) ≡ false → number_of s ≡ number_from false (scan s)
unfolding number_of
without_sign s e = rw e refl

pub behind_sign : (s : List ℕ) → (slice_index s 0 == minus) ≡ true → number_of s ≡ number_from true (scan (drop 1 s))
unfolding number_of
behind_sign s e = rw e refl
