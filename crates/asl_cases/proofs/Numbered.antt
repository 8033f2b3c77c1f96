-- What a function of numbers gives for each of a list, and writes to lists.
use Rattle.std.proofs.Common.{◌≡◌, ◌⊎◌, ℕ, zero, suc, ◌<◌, Bool, true, false, ◌||◌, List, [], ◌∷◌, ◌++◌, map, length, get_or, set, replicate, refl, sym, ap, ◌∙◌, arith, inl, inr, ⊎_elim, Some, None}
use Rattle.std.specs.Prelude.{nat_eq, option_map, slice_get}
use Rattle.std.specs.List.{range_with_len}
use Rattle.std.specs.Option.{unwrap_or}
use Rattle.std.proofs.lemmas.Bool.{cases_eq, eq-eqb, ne_eqb, or_right}
use Rattle.std.proofs.lemmas.Grind.{get_or-set_at}
use Rattle.std.proofs.lemmas.List.{get_or-set_other, length-map, length-set, same_lists}
use Rattle.std.proofs.lemmas.List.FromFn.{get_or-map-range_with_len, length-map-range_with_len, length-range_with_len}
use Rattle.std.proofs.lemmas.Option.{none-some, same_Some, slice_get-map, slice_get_read, unwrap_or-slice_get}
use Rattle.std.proofs.lemmas.Simd.{splat_is_map}
use Rattle.asl_cases.specs.Coverage.{by_number}

-- ---- truth values

pub or_none : (a b : Bool) → b ≡ false → a ≡ (a || b)
or_none true b e = refl
or_none false b e = sym e

-- ---- by number

pub same_map : {A B : Type 0} (f g : A → B) → ((x : A) → f x ≡ g x) → (xs : List A) → map f xs ≡ map g xs
same_map f g h [] = refl
same_map f g h (x ∷ xs) = ap (λ y. y ∷ map f xs) (h x) ∙ ap (λ ys. g x ∷ ys) (same_map f g h xs)

pub same_by_number : {A B : Type 0} (f g : ℕ → B) → ((i : ℕ) → f i ≡ g i) → (xs : List A) → by_number f xs ≡ by_number g xs
same_by_number f g h xs = same_map f g h (range_with_len 0 (length xs))

pub by_number_seen : {A B C : Type 0} (f : ℕ → C) (v : A → B) (xs : List A) → by_number f (map v xs) ≡ by_number f xs
by_number_seen f v xs = ap (λ n. map f (range_with_len 0 n)) (length-map xs v)

pub none_set : {A : Type 0} (n : ℕ) (xs : List A) → n ≡ length xs → replicate n false ≡ by_number (λ i. false) xs
none_set n xs e =
    ap (λ m. replicate m false) e ∙ splat_is_map (range_with_len 0 (length xs)) (length xs) false (length-range_with_len 0 (length xs))

marked_at : (t : ℕ → Bool) (i n k : ℕ) (d : Bool) → k < n → (k ≡ i) ⊎ (k ≡ i → ⊥) → get_or (set (map t (range_with_len 0 n)) i true) k d ≡ get_or (map (λ j. t j || nat_eq i j) (range_with_len 0 n)) k d
marked_at t i n k d h (inl e) =
    let m = length-map-range_with_len t 0 n in
    get_or-set_at (map t (range_with_len 0 n)) i k true d e (omega arith)
    ∙ sym (get_or-map-range_with_len (λ j. t j || nat_eq i j) 0 n k k d h (omega arith) ∙ or_right (t k) (nat_eq i k) (eq-eqb i k (sym e)))
marked_at t i n k d h (inr ne) =
    get_or-set_other (map t (range_with_len 0 n)) i k true d ne
    ∙ (get_or-map-range_with_len t 0 n k k d h (omega arith)
    ∙ (or_none (t k) (nat_eq i k) (ne_eqb i k (λ e. ne (sym e)))
    ∙ sym (get_or-map-range_with_len (λ j. t j || nat_eq i j) 0 n k k d h (omega arith))))

-- the flag of that number is set
pub marked : {A : Type 0} (t : ℕ → Bool) (i : ℕ) (xs : List A) → set (by_number t xs) i true ≡ by_number (λ j. t j || nat_eq i j) xs
marked t i xs =
    let n = length xs in
    let flags = map t (range_with_len 0 n) in
    let more = map (λ j. t j || nat_eq i j) (range_with_len 0 n) in
    let same = length-set flags i true in
    let m = length-map-range_with_len t 0 n in
    let m' = length-map-range_with_len (λ j. t j || nat_eq i j) 0 n in
    same_lists (set flags i true) more (same ∙ m ∙ sym m') (λ k d h. marked_at t i n k d (omega arith) (cases_eq k i))

-- ---- an element by its number

pub get_set_same : {A : Type 0} (xs : List A) (i : ℕ) (y z : A) → slice_get (set xs i y) i ≡ Some z → y ≡ z
get_set_same [] i y z h = absurd (none-some z h)
get_set_same (x ∷ xs) zero y z h = same_Some y z h
get_set_same (x ∷ xs) (suc i) y z h = get_set_same xs i y z h

pub get_set_other : {A : Type 0} (xs : List A) (i j : ℕ) (y : A) → (j ≡ i → ⊥) → slice_get (set xs i y) j ≡ slice_get xs j
get_set_other [] i j y ne = refl
get_set_other (x ∷ xs) zero zero y ne = absurd (ne refl)
get_set_other (x ∷ xs) zero (suc j) y ne = refl
get_set_other (x ∷ xs) (suc i) zero y ne = refl
get_set_other (x ∷ xs) (suc i) (suc j) y ne = get_set_other xs i j y (λ e. ne (ap suc e))

-- an element of a list that one was added to
pub get_push : {A : Type 0} (xs : List A) (y : A) (k : ℕ) (z : A) → slice_get (xs ++ y ∷ []) k ≡ Some z → (slice_get xs k ≡ Some z) ⊎ ((k ≡ length xs) × (y ≡ z))
get_push [] y zero z h = inr (refl, same_Some y z h)
get_push [] y (suc k) z h = absurd (none-some z h)
get_push (x ∷ xs) y zero z h = inl h
get_push (x ∷ xs) y (suc k) z h =
    ⊎_elim (λ e. inl e) (λ e. inr (ap suc e.0, e.1)) (get_push xs y k z h)

pub none_within : {A : Type 0} (xs : List A) (i : ℕ) → slice_get xs i ≡ None → i < length xs → ⊥
none_within [] i h lt = omega arith
none_within (x ∷ xs) zero h lt = none-some x (sym h)
none_within (x ∷ xs) (suc i) h lt = none_within xs i h (omega arith)

-- the flag of a number is what is taken there
pub flag_at : {A : Type 0} (t : ℕ → Bool) (i : ℕ) (xs : List A) → i < length xs → unwrap_or (slice_get (by_number t xs) i) false ≡ t i
flag_at t i xs h =
    unwrap_or-slice_get (by_number t xs) i false ∙ get_or-map-range_with_len t 0 (length xs) i i false h (omega arith)

-- what is seen of an element
pub seen_at : {A B : Type 0} (see : A → B) (xs : List A) (i : ℕ) (x : A) → i < length xs → x ≡ get_or xs i x → slice_get (map see xs) i ≡ Some (see x)
seen_at see xs i x within is =
    slice_get-map see xs i ∙ ap (option_map see) (slice_get_read xs (length xs) i x refl within is)
