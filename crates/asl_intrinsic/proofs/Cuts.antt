-- Where a text is cut at its holes.
use Rattle.std.proofs.Common.{◌≡◌, ◌<◌, ◌≤◌, ℕ, zero, suc, List, [], ◌∷◌, ◌++◌, length, take, drop, Bool, true, false, Some, None, codes, nat_eq, refl, ap, ◌∙◌, arith}
use Rattle.std.proofs.lemmas.Bool.Decides.{nat_tests}
use Rattle.std.specs.Str.Pattern.{FindsText, LacksTextAt, SplitsAroundMatch}
use Rattle.asl_model.specs.Intrinsic.{begins_with, byte_before, cut_at_holes}

-- a byte that makes no hole stands in front of the first piece
plain : (x : ℕ) (first : List ℕ) (others : List (List ℕ)) → (x ≡ 123 → begins_with 125 first ≡ true → ⊥) → byte_before x (record { first = first; after_holes = others }) ≡ record { first = x ∷ first; after_holes = others }
plain x first others h = go (nat_eq x 123) refl (begins_with 125 first) refl
  where
    go : (opens : Bool) → nat_eq x 123 ≡ opens → (closes : Bool) → begins_with 125 first ≡ closes → byte_before x (record { first = first; after_holes = others }) ≡ record { first = x ∷ first; after_holes = others }
    go true e true f = absurd (h (grind (arith, nat_tests)) f)
    go true e false f = rw (e, f) refl
    go false e closes f = rw e refl

-- a text that begins with `}` is that byte and a rest
closing : (s : List ℕ) → begins_with 125 s ≡ true → (rest : List ℕ) × (s ≡ 125 ∷ rest)
closing [] h = absurd (cc)
closing (x ∷ s) h = let is : x ≡ 125 = grind (arith, nat_tests) in (s, ap (λ y. y ∷ s) is)

-- so is one whose front begins with it
closing_front : (n : ℕ) (s : List ℕ) → begins_with 125 (take n s) ≡ true → (rest : List ℕ) × (s ≡ 125 ∷ rest)
closing_front zero s h = absurd (cc)
closing_front (suc n) [] h = absurd (cc)
closing_front (suc n) (x ∷ s) h = let is : x ≡ 125 = grind (arith, nat_tests) in (s, ap (λ y. y ∷ s) is)

-- the text is cut at the first hole
cut_at : (s rest : List ℕ) (i : ℕ) → ((k : ℕ) → k < i → LacksTextAt (codes "{}") s k) → drop i s ≡ codes "{}" ++ rest → cut_at_holes s ≡ record { first = take i s; after_holes = (cut_at_holes rest).first ∷ (cut_at_holes rest).after_holes }
cut_at [] rest zero lacks found = absurd (cc)
cut_at [] rest (suc i) lacks found = absurd (cc)
cut_at (x ∷ s) rest zero lacks found = ap cut_at_holes found
cut_at (x ∷ s) rest (suc i) lacks found =
    let later : (k : ℕ) → k < i → LacksTextAt (codes "{}") s k = λ k h. lacks (suc k) (omega arith) in
    rw (cut_at s rest i later found) (plain x (take i s) _ (no_hole i))
  where
    no_hole : (n : ℕ) → x ≡ 123 → begins_with 125 (take n s) ≡ true → ⊥
    no_hole n is closes = let front = closing_front n s closes in lacks 0 (omega arith) front.0 (ap (λ y. y ∷ s) is ∙ ap (λ u. 123 ∷ u) front.1)

-- a text without a hole isn't cut
uncut : (s : List ℕ) → ((k : ℕ) → k ≤ length s → LacksTextAt (codes "{}") s k) → cut_at_holes s ≡ record { first = s; after_holes = [] }
uncut [] lacks = refl
uncut (x ∷ s) lacks =
    let later : (k : ℕ) → k ≤ length s → LacksTextAt (codes "{}") s k = λ k h. lacks (suc k) (omega arith) in
    rw (uncut s later) (plain x s [] (λ is closes. let found = closing s closes in lacks 0 (omega arith) found.0 (ap (λ y. y ∷ s) is ∙ ap (λ u. 123 ∷ u) found.1)))

-- a text in which `{}` isn't found is one piece
pub cut_without_match : (s : List ℕ) → FindsText (codes "{}") s None → cut_at_holes s ≡ record { first = s; after_holes = [] }
cut_without_match s lacks = uncut s lacks

-- a text is cut at the first place where `{}` is found
pub cut_at_found : (s : List ℕ) (i j : ℕ) → FindsText (codes "{}") s (Some (i, j)) → cut_at_holes s ≡ record { first = take i s; after_holes = (cut_at_holes (drop j s)).first ∷ (cut_at_holes (drop j s)).after_holes }
cut_at_found s i j found = cut_at s (drop j s) i found.0 found.1.split

-- so it is where it was split there
pub cut_at_match : (s front back : List ℕ) → SplitsAroundMatch (FindsText (codes "{}")) s front back → cut_at_holes s ≡ record { first = front; after_holes = (cut_at_holes back).first ∷ (cut_at_holes back).after_holes }
cut_at_match s front back split = cut_at_found s split.0 split.1 split.2 ∙ rw (split.3, split.4) refl
