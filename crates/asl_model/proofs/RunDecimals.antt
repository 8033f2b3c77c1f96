-- A whole number in decimal is what `{}` writes for it, wherever that has at most 64 digits.
use Rattle.std.proofs.Common.{◌≡◌, refl, sym, ap, ◌∙◌, subst, arith, ◌+◌, ◌*◌, ◌/◌, ◌%◌, ◌^◌, ◌<◌, ◌≤◌, ℕ, zero, suc, ℤ, pos, negsuc, nat_abs, List, [], ◌∷◌, Bool, true, false, nat_lt, if◌then◌else◌, ltb-true, ltb-false, lt-ltb, eq-eqb, ne_eqb, pow-suc}
use Rattle.std.specs.Fmt.{digit_glyph, digits_onto, digits, signed_decimal}
use Rattle.asl_model.specs.Intrinsic.{digits_before, decimal_text}

-- a digit
glyph : (d : ℕ) → d < 10 → digit_glyph false d ≡ 48 + d
glyph d h = ap (λ (small : Bool). if small then 48 + d else 87 + d) (lt-ltb d 10 h)

-- the last digit alone
one_digit : (j n : ℕ) (text : List ℕ) → n < 10 → digits_onto (suc j) 10 false n text ≡ (48 + n) ∷ text
one_digit j n text h =
    let none : n / 10 ≡ 0 = omega arith in
    let all : n % 10 ≡ n = omega arith in
    ap (λ (last : Bool). if last then digit_glyph false (n % 10) ∷ text else digits_onto j 10 false (n / 10) (digit_glyph false (n % 10) ∷ text)) (eq-eqb (n / 10) 0 none)
    ∙ ap (λ (d : ℕ). digit_glyph false d ∷ text) all ∙ ap (λ (g : ℕ). g ∷ text) (glyph n h)

-- the last digit behind others
more_digits : (j n : ℕ) (text : List ℕ) → 10 ≤ n → digits_onto (suc j) 10 false n text ≡ digits_onto j 10 false (n / 10) ((48 + n % 10) ∷ text)
more_digits j n text h =
    let some : 0 < n / 10 = omega arith in
    let small : n % 10 < 10 = omega arith in
    ap (λ (last : Bool). if last then digit_glyph false (n % 10) ∷ text else digits_onto j 10 false (n / 10) (digit_glyph false (n % 10) ∷ text)) (ne_eqb (n / 10) 0 (λ e. absurd (omega (arith, e))))
    ∙ ap (λ (g : ℕ). digits_onto j 10 false (n / 10) (g ∷ text)) (glyph (n % 10) small)

same_digits : (j k n : ℕ) (text : List ℕ) → n < 10 ^ suc j → n ≤ k → digits_before (suc k) n text ≡ digits_onto (suc j) 10 false n text
same_digits zero k n text small fuel =
    let one : n < 10 = small in
    ap (λ (last : Bool). elim last [ true ↦ (48 + n) ∷ text | false ↦ digits_before k (n / 10) ((48 + n % 10) ∷ text) ]) (lt-ltb n 10 one) ∙ sym (one_digit zero n text one)
same_digits (suc j) zero n text small fuel =
    let one : n < 10 = omega arith in
    ap (λ (last : Bool). elim last [ true ↦ (48 + n) ∷ text | false ↦ digits_before zero (n / 10) ((48 + n % 10) ∷ text) ]) (lt-ltb n 10 one) ∙ sym (one_digit (suc j) n text one)
same_digits (suc j) (suc k) n text small fuel = go (nat_lt n 10) refl (λ fewer less. same_digits j k (n / 10) ((48 + n % 10) ∷ text) fewer less)
  where
    go : (last : Bool) → nat_lt n 10 ≡ last → (n / 10 < 10 ^ suc j → n / 10 ≤ k → digits_before (suc k) (n / 10) ((48 + n % 10) ∷ text) ≡ digits_onto (suc j) 10 false (n / 10) ((48 + n % 10) ∷ text)) → (elim last [ true ↦ (48 + n) ∷ text | false ↦ digits_before (suc k) (n / 10) ((48 + n % 10) ∷ text) ]) ≡ digits_onto (suc (suc j)) 10 false n text
    go true e inner = sym (one_digit (suc j) n text (ltb-true n 10 e))
    go false e inner =
        let many : 10 ≤ n = ltb-false n 10 e in
        let power : 10 ^ suc (suc j) ≡ 10 ^ suc j * 10 = pow-suc 10 (suc j) in
        let bound : n < 10 ^ suc j * 10 = subst (λ (b : ℕ). n < b) power small in
        let fewer : n / 10 < 10 ^ suc j = omega arith in
        let less : n / 10 ≤ k = omega arith in
        inner fewer less ∙ sym (more_digits (suc j) n text many)

pub decimal_is_written : (z : ℤ) → nat_abs z < 10 ^ 64 → decimal_text z ≡ signed_decimal z
unfolding digits
decimal_is_written (pos n) h = same_digits 63 n n [] h (omega arith)
decimal_is_written (negsuc n) h = ap (λ (t : List ℕ). 45 ∷ t) (same_digits 63 (suc n) (suc n) [] h (omega arith))
