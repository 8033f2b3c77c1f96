-- Where a text may be cut, and the index that digits write.
use Rattle.std.proofs.Common.{◌≡◌, ◌⊎◌, ◌≢◌, ℕ, suc, ◌<◌, ◌≤◌, ◌^◌, List, [], ◌∷◌, length, Bool, true, false, cond, ◌==◌, IsTrue, Option, Result, Ok, Err, MatchOption, refl, arith}
use Rattle.std.proofs.lemmas.Bool.Decides.{nat_tests}
use Rattle.std.specs.Char.{is_ascii_digit, digit_value}
use Rattle.std.specs.List.{slice_index}
use Rattle.std.specs.Result.{result_ok}
use Rattle.std.specs.Str.{IsCharBoundary}
use Rattle.std.specs.Str.Parse.{AllDigits, ParsesUnsigned, digits_value, without_leading_plus}
use Rattle.asl_model.specs.PathSpelling.{front_length, is_index}
use Rattle.asl_path.proofs.Bytes.{front_within, front_stops}

-- a text may be cut behind a front that ends before an ASCII byte
pub boundary : (test : ℕ → Bool) → ((b : ℕ) → test b ≡ false → b < 128) → (s : List ℕ) (n : ℕ) → n ≡ front_length test s → IsCharBoundary s n
boundary test ascii s n e =
    rw e (front_within test s, λ h k. let low = ascii _ (front_stops test s h) in absurd (omega arith))

digit_below_ten : (b : ℕ) → is_ascii_digit b ≡ true → digit_value b < 10
digit_below_ten b e = grind (arith, nat_tests)

all_digits_one : (b : Bool) (x : ℕ) (n l : ℕ) → is_ascii_digit x ≡ b → cond b (suc n) 0 ≡ suc l → (digit_value x < 10) × (n ≡ l)
all_digits_one true x n l e h = (digit_below_ten x e, omega arith)
all_digits_one false x n l e h = absurd (omega arith)

pub all_digits : (s : List ℕ) → front_length is_ascii_digit s ≡ length s → AllDigits 10 s
all_digits [] e = tt
all_digits (x ∷ s) e = let h = all_digits_one (is_ascii_digit x) x (front_length is_ascii_digit s) (length s) refl e in (h.0, all_digits s h.1)

no_plus_one : (b : Bool) (x n l : ℕ) → is_ascii_digit x ≡ b → cond b (suc n) 0 ≡ suc l → (x == 43) ≡ false
no_plus_one true x n l e h = grind (arith, nat_tests)
no_plus_one false x n l e h = absurd (omega arith)

pub no_plus : (s : List ℕ) → front_length is_ascii_digit s ≡ length s → without_leading_plus s ≡ s
no_plus [] e = refl
no_plus (x ∷ s) e = rw (no_plus_one (is_ascii_digit x) x (front_length is_ascii_digit s) (length s) refl e) refl

index_true : (s : List ℕ) → 0 < length s → (length s ≤ 1) ⊎ (slice_index s 0 ≢ 48) → digits_value 10 s < 2 ^ 32 → is_index s ≡ true
index_true s some zeros small = grind (arith, nat_tests)

index_means : (s : List ℕ) → is_index s ≡ true → (0 < length s) × (digits_value 10 s < 2 ^ 32)
index_means s e = (grind (arith, nat_tests), grind (arith, nat_tests))

false_unless : (b : Bool) → (b ≡ true → ⊥) → b ≡ false
false_unless true h = absurd (h refl)
false_unless false h = refl

-- what `parse` answers on digits without a leading zero
pub index_parsed : {E : Type 0} (s : List ℕ) (r : Result ℕ E) (o : Option ℕ) → front_length is_ascii_digit s ≡ length s → (length s ≤ 1) ⊎ (slice_index s 0 ≢ 48) → ParsesUnsigned 32 10 s r → o ≡ result_ok r
    → MatchOption o (is_index s ≡ false) (λ n. IsTrue (is_index s) × (n ≡ digits_value 10 s))
index_parsed s (Ok x) o digits zeros parsed e =
    let read = rw (no_plus s digits) at parsed in
    rw e (index_true s read.0.0.0 zeros read.0.1, read.1)
index_parsed s (Err f) o digits zeros parsed e =
    let refused = rw (no_plus s digits) at parsed in
    rw e (false_unless (is_index s) (λ h. let m = index_means s h in refused ((m.0, all_digits s digits), m.1)))
