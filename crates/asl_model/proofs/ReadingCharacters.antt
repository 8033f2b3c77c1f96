-- The bytes that continue no character are as many as the characters of a text.
use Rattle.std.proofs.Common.{◌≡◌, ℕ, suc, ◌+◌, ◌*◌, ◌/◌, ◌%◌, ◌<◌, ◌≤◌, List, [], ◌∷◌, ◌++◌, length, Bool, true, false, cond, ◌==◌, if◌then◌else◌, ltb, refl, ap, ◌∙◌, arith, div-lt_iff_lt-mul, le-div_iff_mul-le, mod-lt}
use Rattle.std.specs.Str.{encode_utf8_all}
use Rattle.std.specs.Char.{encode_utf8}
use Rattle.std.proofs.lemmas.Bool.{eq-eqb, ne_eqb, ltb-true}
use Rattle.asl_model.specs.StandsFor.{characters}

below : (b n : ℕ) → b < n * 64 → b / 64 < n
below b n h = (div-lt_iff_lt-mul {k = 64} {x = b} {y = n} (omega arith)).1 h

above : (b n : ℕ) → n * 64 ≤ b → n ≤ b / 64
above b n h = (le-div_iff_mul-le {k = 64} {x = n} {y = b} (omega arith)).1 h

continues : (b : ℕ) → 128 ≤ b → b < 192 → (b / 64 == 2) ≡ true
continues b low high = eq-eqb (b / 64) 2 (omega (arith, below b 3 (omega arith), above b 2 (omega arith)))

begins_low : (b : ℕ) → b < 128 → (b / 64 == 2) ≡ false
begins_low b low = ne_eqb (b / 64) 2 (λ e. absurd (omega (arith, e, below b 2 (omega arith))))

begins_high : (b : ℕ) → 192 ≤ b → (b / 64 == 2) ≡ false
begins_high b high = ne_eqb (b / 64) 2 (λ e. absurd (omega (arith, e, above b 3 (omega arith))))

skipped : (b : ℕ) (bs : List ℕ) → (b / 64 == 2) ≡ true → characters (b ∷ bs) ≡ characters bs
skipped b bs e = ap (λ t. if t then characters bs else suc (characters bs)) e

counted : (b : ℕ) (bs : List ℕ) → (b / 64 == 2) ≡ false → characters (b ∷ bs) ≡ suc (characters bs)
counted b bs e = ap (λ t. if t then characters bs else suc (characters bs)) e

-- a byte that continues a character
next_skipped : (x : ℕ) (bs : List ℕ) → characters ((128 + x % 64) ∷ bs) ≡ characters bs
next_skipped x bs = skipped (128 + x % 64) bs (continues (128 + x % 64) (omega arith) (omega (arith, mod-lt x {m = 64} (omega arith))))

one_counted : (c : ℕ) (bs : List ℕ) → characters (encode_utf8 c ++ bs) ≡ suc (characters bs)
unfolding encode_utf8
one_counted c bs = by (ltb c 128) (ltb c 2048) (ltb c 65536) refl
  where
    by : (x y z : Bool) → ltb c 128 ≡ x → characters (cond x (c ∷ []) (cond y ((192 + c / 64) ∷ (128 + c % 64) ∷ []) (cond z ((224 + c / 4096) ∷ (128 + c / 64 % 64) ∷ (128 + c % 64) ∷ []) ((240 + c / 262144) ∷ (128 + c / 4096 % 64) ∷ (128 + c / 64 % 64) ∷ (128 + c % 64) ∷ []))) ++ bs) ≡ suc (characters bs)
    by true y z e = counted c bs (begins_low c (ltb-true c 128 e))
    by false true z e = counted (192 + c / 64) ((128 + c % 64) ∷ bs) (begins_high (192 + c / 64) (omega arith)) ∙ ap suc (next_skipped c bs)
    by false false true e = counted (224 + c / 4096) ((128 + c / 64 % 64) ∷ (128 + c % 64) ∷ bs) (begins_high (224 + c / 4096) (omega arith)) ∙ ap suc (next_skipped (c / 64) ((128 + c % 64) ∷ bs) ∙ next_skipped c bs)
    by false false false e = counted (240 + c / 262144) ((128 + c / 4096 % 64) ∷ (128 + c / 64 % 64) ∷ (128 + c % 64) ∷ bs) (begins_high (240 + c / 262144) (omega arith)) ∙ ap suc (next_skipped (c / 4096) ((128 + c / 64 % 64) ∷ (128 + c % 64) ∷ bs) ∙ next_skipped (c / 64) ((128 + c % 64) ∷ bs) ∙ next_skipped c bs)

pub characters_counted : (cs : List ℕ) → characters (encode_utf8_all cs) ≡ length cs
characters_counted [] = refl
characters_counted (c ∷ cs) = one_counted c (encode_utf8_all cs) ∙ ap suc (characters_counted cs)
