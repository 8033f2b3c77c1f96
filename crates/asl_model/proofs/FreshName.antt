-- The fresh name isn't mentioned: wherever a name is, fewer mentions are longer than it than are as long or longer.
use Rattle.std.proofs.Common.{◌≡◌, ℕ, zero, suc, ◌+◌, ◌≤◌, List, [], ◌∷◌, length, Bool, true, false, ◌||◌, refl, arith}
use Rattle.std.specs.Prelude.{IsTrue, bytes_eq, if◌then◌else◌, codes}
use Rattle.std.proofs.lemmas.Slice.Eq.{bytes_eq-Decides}
use Rattle.asl_model.specs.Shape.{FieldShapes, NoFieldShapes, AndFieldShape, mentions}
use Rattle.asl_model.specs.Examples.{count_mentions, unmentioned_name, fresh_name}

-- the name is of that length or longer
is_long : ℕ → List ℕ → Bool
is_long zero n = true
is_long (suc k) [] = false
is_long (suc k) (c ∷ n) = is_long k n

-- how many mentions are of such names
long : ℕ → FieldShapes → ℕ
long k NoFieldShapes = 0
long k (AndFieldShape n needed s shapes) = if is_long k n then suc (long k shapes) else long k shapes

own-long : (n : List ℕ) → is_long (length n) n ≡ true
unfolding is_long
own-long [] = refl
own-long (c ∷ n) = own-long n

longer-false : (n : List ℕ) → is_long (suc (length n)) n ≡ false
unfolding is_long
longer-false [] = refl
longer-false (c ∷ n) = longer-false n

long-less : (k : ℕ) (n : List ℕ) → is_long (suc k) n ≡ true → is_long k n ≡ true
unfolding is_long
long-less zero n h = refl
long-less (suc k) [] h = absurd (cc)
long-less (suc k) (c ∷ n) h = long-less k n h

long-falls : (k : ℕ) (shapes : FieldShapes) → long (suc k) shapes ≤ long k shapes
unfolding long
long-falls k NoFieldShapes = omega arith
long-falls k (AndFieldShape n needed s shapes) = go (is_long (suc k) n) refl (is_long k n) refl (long-falls k shapes)
  where
    go : (longer : Bool) → is_long (suc k) n ≡ longer → (here : Bool) → is_long k n ≡ here → long (suc k) shapes ≤ long k shapes → long (suc k) (AndFieldShape n needed s shapes) ≤ long k (AndFieldShape n needed s shapes)
    go true longer here at below = rw (longer, long-less k n longer) (omega arith)
    go false shorter true at below = rw (shorter, at) (omega arith)
    go false shorter false at below = rw (shorter, at) below

long-mentioned : (n : List ℕ) (shapes : FieldShapes) → IsTrue (mentions n shapes) → suc (long (suc (length n)) shapes) ≤ long (length n) shapes
unfolding long
long-mentioned n NoFieldShapes h = absurd (cc)
long-mentioned n (AndFieldShape m needed s shapes) h = go (bytes_eq m n) refl (is_long (suc (length n)) m) refl (is_long (length n) m) refl (long-mentioned n shapes)
  where
    go : (same : Bool) → bytes_eq m n ≡ same → (longer : Bool) → is_long (suc (length n)) m ≡ longer → (here : Bool) → is_long (length n) m ≡ here → (IsTrue (mentions n shapes) → suc (long (suc (length n)) shapes) ≤ long (length n) shapes) → suc (long (suc (length n)) (AndFieldShape m needed s shapes)) ≤ long (length n) (AndFieldShape m needed s shapes)
    go true same longer' longer here' here below =
        let is : m ≡ n = (bytes_eq-Decides m n).0 same in
        let falls : long (suc (length n)) shapes ≤ long (length n) shapes = long-falls (length n) shapes in
        rw (is, longer-false n, own-long n) (omega arith)
    go false other true longer here' here below =
        let rest : suc (long (suc (length n)) shapes) ≤ long (length n) shapes = below (rw other at h) in
        rw (longer, long-less (length n) m longer) (omega arith)
    go false other false shorter true here below =
        let rest : suc (long (suc (length n)) shapes) ≤ long (length n) shapes = below (rw other at h) in
        rw (shorter, here) (omega arith)
    go false other false shorter false here below = rw (shorter, here) (below (rw other at h))

long-count : (k : ℕ) (shapes : FieldShapes) → long k shapes ≤ count_mentions shapes
unfolding long
long-count k NoFieldShapes = omega arith
long-count k (AndFieldShape n needed s shapes) = go (is_long k n) refl (long-count k shapes)
  where
    go : (here : Bool) → is_long k n ≡ here → long k shapes ≤ count_mentions shapes → long k (AndFieldShape n needed s shapes) ≤ suc (count_mentions shapes)
    go true here below = rw here (omega arith)
    go false here below = rw here (omega arith)

-- where there are steps enough, the name that is come to isn't mentioned
come_to : (steps : ℕ) (n : List ℕ) (others shapes : FieldShapes) → long (length n) others + long (length n) shapes ≤ steps → (mentions (unmentioned_name steps n others shapes) others || mentions (unmentioned_name steps n others shapes) shapes) ≡ false
come_to zero n others shapes few = go (mentions n others) refl (mentions n shapes) refl
  where
    go : (first : Bool) → mentions n others ≡ first → (second : Bool) → mentions n shapes ≡ second → (mentions n others || mentions n shapes) ≡ false
    go true first second' second =
        let more : suc (long (suc (length n)) others) ≤ long (length n) others = long-mentioned n others first in
        absurd (omega arith)
    go false first true second =
        let more : suc (long (suc (length n)) shapes) ≤ long (length n) shapes = long-mentioned n shapes second in
        absurd (omega arith)
    go false first false second = rw (first, second) refl
come_to (suc steps) n others shapes few = go (mentions n others) refl (mentions n shapes) refl (come_to steps (97 ∷ n) others shapes)
  where
    fewer_first : long (suc (length n)) others ≤ long (length n) others
    fewer_first = long-falls (length n) others

    fewer_second : long (suc (length n)) shapes ≤ long (length n) shapes
    fewer_second = long-falls (length n) shapes

    go : (first : Bool) → mentions n others ≡ first → (second : Bool) → mentions n shapes ≡ second → (long (suc (length n)) others + long (suc (length n)) shapes ≤ steps → (mentions (unmentioned_name steps (97 ∷ n) others shapes) others || mentions (unmentioned_name steps (97 ∷ n) others shapes) shapes) ≡ false) → (mentions (unmentioned_name (suc steps) n others shapes) others || mentions (unmentioned_name (suc steps) n others shapes) shapes) ≡ false
    go true first second' second below =
        let more : suc (long (suc (length n)) others) ≤ long (length n) others = long-mentioned n others first in
        let second_falls : long (suc (length n)) shapes ≤ long (length n) shapes = fewer_second in
        rw first (below (omega arith))
    go false first true second below =
        let more : suc (long (suc (length n)) shapes) ≤ long (length n) shapes = long-mentioned n shapes second in
        let first_falls : long (suc (length n)) others ≤ long (length n) others = fewer_first in
        rw (first, second) (below (omega arith))
    go false first false second below = rw (first, second) (rw (first, second) refl)

-- the fresh name is mentioned by neither
pub fresh-unmentioned : (others shapes : FieldShapes) → (mentions (fresh_name others shapes) others || mentions (fresh_name others shapes) shapes) ≡ false
fresh-unmentioned others shapes =
    let first : long 1 others ≤ count_mentions others = long-count 1 others in
    let second : long 1 shapes ≤ count_mentions shapes = long-count 1 shapes in
    come_to (count_mentions others + count_mentions shapes) (codes "a") others shapes (omega arith)
