-- The numbers that digits spell.
use Rattle.std.proofs.Common.{◌≡◌, ◌<◌, ◌≤◌, ◌^◌, ◌==◌, ◌&&◌, ℕ, suc, ℤ, pos, ◌-ℤ◌, List, [], ◌∷◌, length, Bool, true, false, cond, nat_lt, nat_le, Option, Some, None, Result, Ok, Err, FitsSigned, w64, lt-ltb, ltb-true, leb-true, refl, sym, ap, ◌∙◌, arith}
use Rattle.std.proofs.lemmas.Bool.Decides.{nat_tests}
use Rattle.std.proofs.lemmas.Int.{fits_signed_from_abs, ints}
use Rattle.std.specs.Char.{is_ascii_digit}
use Rattle.std.specs.Result.{result_ok}
use Rattle.std.specs.Str.Parse.{IsNumeral, ParsesSigned, ParsesUnsigned, digits_value, starts_with_minus}
use Rattle.asl_model.specs.CallSpelling.{is_whole, negated, negative_of, whole_number}
use Rattle.asl_model.specs.PathSpelling.{front_length}
use Rattle.asl_path.proofs.Cuts.{all_digits, no_plus}

-- digits of a whole number
record IsNumber (s : List ℕ) : Type 0 where
  some : 0 < length s
  digits : front_length is_ascii_digit s ≡ length s

-- a whole number has digits alone, and one at least
is_number : (s : List ℕ) → is_whole s ≡ true → IsNumber s
is_number s e = record { some = grind (arith, nat_tests); digits = grind (arith, nat_tests) }

-- digits have no minus sign in front
no_minus : (s : List ℕ) → front_length is_ascii_digit s ≡ length s → starts_with_minus s ≡ false
no_minus [] e = refl
no_minus (x ∷ s) e = go (is_ascii_digit x) refl e
  where
    go : (digit : Bool) → is_ascii_digit x ≡ digit → cond digit (suc (front_length is_ascii_digit s)) 0 ≡ suc (length s) → (x == 45) ≡ false
    go true is h = grind (arith, nat_tests)
    go false is h = absurd (omega arith)

-- digits of a whole number are a numeral to std's `parse`
numeral : (s : List ℕ) → IsNumber s → IsNumeral 10 s
numeral s h = (h.some, all_digits s h.digits)

-- a number from 0 up that fits 64 bits with a sign is below 2 ^ 63
within : (n : ℕ) → FitsSigned w64 (pos n) → n < 2 ^ 63
within n h = omega (arith, ints, h)

-- a number below 2 ^ 63 fits
fits : (n : ℕ) → n < 2 ^ 63 → FitsSigned w64 (pos n)
fits n h = fits_signed_from_abs w64 (pos n) h

-- a whole number below 2 ^ 63 spells its value
number_here : (s : List ℕ) → is_whole s ≡ true → digits_value 10 s < 2 ^ 63 → whole_number s ≡ Some (pos (digits_value 10 s))
number_here s whole small = rw (whole, lt-ltb (digits_value 10 s) (2 ^ 63) small) refl

-- one that isn't below it spells none
no_number : (s : List ℕ) → (digits_value 10 s < 2 ^ 63 → ⊥) → whole_number s ≡ None
no_number s large = go (nat_lt (digits_value 10 s) (2 ^ 63)) refl (is_whole s)
  where
    go : (b : Bool) → nat_lt (digits_value 10 s) (2 ^ 63) ≡ b → (whole : Bool) → cond (whole && b) (Some (pos (digits_value 10 s))) None ≡ None
    go true e whole = absurd (large (ltb-true (digits_value 10 s) (2 ^ 63) e))
    go false e true = refl
    go false e false = refl

-- what `parse` answers on a whole number
pub number_parsed : {E : Type 0} (s : List ℕ) (r : Result ℤ E) (o : Option ℤ) → is_whole s ≡ true → ParsesSigned w64 10 s r → o ≡ result_ok r → o ≡ whole_number s
number_parsed s (Ok z) o whole parsed e =
    let number = is_number s whole in
    let read = rw (no_minus s number.digits, no_plus s number.digits) at parsed in
    e ∙ ap Some read.1 ∙ sym (number_here s whole (within (digits_value 10 s) read.0.1))
number_parsed s (Err f) o whole parsed e =
    let number = is_number s whole in
    let refused = rw (no_minus s number.digits, no_plus s number.digits) at parsed in
    e ∙ sym (no_number s (λ small. refused (numeral s number, fits (digits_value 10 s) small)))

-- ---- numbers behind a minus sign

-- where the negative of a number fits 64 bits, the number is at most 2 ^ 63
least : (n : ℕ) → FitsSigned w64 (pos 0 -ℤ pos n) → n ≤ 2 ^ 63
least n h = omega (arith, ints, h)

-- a larger one spells none
no_negative : (s : List ℕ) → (digits_value 10 s ≤ 2 ^ 63 → ⊥) → negative_of s ≡ None
no_negative s large = go (nat_le (digits_value 10 s) (2 ^ 63)) refl (is_whole s)
  where
    go : (b : Bool) → nat_le (digits_value 10 s) (2 ^ 63) ≡ b → (whole : Bool) → cond (whole && b) (Some (negated (digits_value 10 s))) None ≡ None
    go true e whole = absurd (large (leb-true (digits_value 10 s) (2 ^ 63) e))
    go false e true = refl
    go false e false = refl

-- where `parse` answers none on a whole number
pub negative_refused : {E : Type 0} (s : List ℕ) (r : Result ℕ E) (o : Option ℕ) → is_whole s ≡ true → ParsesUnsigned 64 10 s r → o ≡ result_ok r → o ≡ None → negative_of s ≡ None
negative_refused s (Ok n) o whole parsed e none = let some : Some n ≡ None = sym e ∙ none in absurd (cc)
negative_refused s (Err f) o whole parsed e none =
    let number = is_number s whole in
    let refused = rw (no_plus s number.digits) at parsed in
    no_negative s (λ small. refused (numeral s number, omega arith))
