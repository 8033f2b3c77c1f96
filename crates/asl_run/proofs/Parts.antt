-- Lists by the numbers of their elements, and parts of them.
use Rattle.std.proofs.Common.{◌≡◌, ◌≢◌, ◌<◌, ◌≤◌, refl, sym, ap, ◌∙◌, arith, ℕ, zero, suc, ◌+◌, ◌-◌, List, [], ◌∷◌, ◌++◌, length, take, drop, get_or, slice_get, slice_set, Option, Some, None}
use Rattle.std.proofs.lemmas.List.{drop-drop}
use Rattle.asl_model.proofs.RunOptions.{some_inj, none_some}
use Rattle.asl_run.specs.Nodes.{in_range, in_table}
use Rattle.asl_run.specs.declared.nodes.Children.{Children}

-- an element stands at each number below the length
pub there : {A : Type 0} (xs : List A) (i : ℕ) → i < length xs → (x : A) × (slice_get xs i ≡ Some x)
there [] i h = absurd (omega arith)
there (x ∷ xs) zero h = (x, refl)
there (x ∷ xs) (suc i) h = there xs i (omega arith)

pub get_drop : {A : Type 0} (n : ℕ) (xs : List A) (k : ℕ) → slice_get (drop n xs) k ≡ slice_get xs (n + k)
get_drop zero xs k = let e : k ≡ 0 + k = omega arith in ap (slice_get xs) e
get_drop (suc n) [] k = refl
get_drop (suc n) (x ∷ xs) k = let e : suc n + k ≡ suc (n + k) = omega arith in get_drop n xs k ∙ ap (slice_get (x ∷ xs)) (sym e)

pub get_take : {A : Type 0} (n : ℕ) (xs : List A) (k : ℕ) → k < n → slice_get (take n xs) k ≡ slice_get xs k
get_take zero xs k h = absurd (omega arith)
get_take (suc n) [] k h = refl
get_take (suc n) (x ∷ xs) zero h = refl
get_take (suc n) (x ∷ xs) (suc k) h = get_take n xs k (omega arith)

pub get_past : {A : Type 0} (n : ℕ) (xs : List A) (k : ℕ) → n ≤ k → slice_get (take n xs) k ≡ None
get_past zero xs k h = refl
get_past (suc n) [] k h = refl
get_past (suc n) (x ∷ xs) zero h = absurd (omega arith)
get_past (suc n) (x ∷ xs) (suc k) h = get_past n xs k (omega arith)

-- an element of a part
pub in_part : {A : Type 0} (children : Children) (all : List A) (k : ℕ) → k < children.count → slice_get (in_table (Some children) all) k ≡ slice_get all (children.first.0 + k)
in_part children all k h = get_take children.count (drop children.first.0 all) k h ∙ get_drop children.first.0 all k

pub past_part : {A : Type 0} (children : Children) (all : List A) (k : ℕ) → children.count ≤ k → slice_get (in_table (Some children) all) k ≡ None
past_part children all k h = get_past children.count (drop children.first.0 all) k h

-- lists with the same elements at the first numbers begin alike
pub same_front : {A : Type 0} (n : ℕ) (xs ys : List A) → ((k : ℕ) → k < n → slice_get xs k ≡ slice_get ys k) → take n xs ≡ take n ys
same_front zero xs ys h = refl
same_front (suc n) [] [] h = refl
same_front (suc n) [] (y ∷ ys) h = none_some (h 0 (omega arith))
same_front (suc n) (x ∷ xs) [] h = none_some (sym (h 0 (omega arith)))
same_front (suc n) (x ∷ xs) (y ∷ ys) h =
    let first : x ≡ y = some_inj (h 0 (omega arith)) in
    ap (λ z. z ∷ take n xs) first ∙ ap (λ zs. y ∷ zs) (same_front n xs ys (λ k less. h (suc k) (omega (arith, less))))

-- so do lists with the same elements but for one
pub front_but_one : {A : Type 0} (n i : ℕ) (xs ys : List A) (x y : A) → i < n → slice_get xs i ≡ Some x → slice_get ys i ≡ Some y → ((k : ℕ) → k < n → k ≢ i → slice_get ys k ≡ slice_get xs k) → take n ys ≡ slice_set (take n xs) i y
front_but_one zero i xs ys x y less was is h = absurd (omega arith)
front_but_one (suc n) i [] ys x y less was is h = none_some was
front_but_one (suc n) i (a ∷ xs) [] x y less was is h = none_some is
front_but_one (suc n) zero (a ∷ xs) (b ∷ ys) x y less was is h =
    ap (λ z. z ∷ take n ys) (some_inj is) ∙ ap (λ zs. y ∷ zs) (same_front n ys xs (λ k lower. h (suc k) (omega (arith, lower)) (λ e. absurd (omega (arith, e)))))
front_but_one (suc n) (suc i) (a ∷ xs) (b ∷ ys) x y less was is h =
    let first : b ≡ a = some_inj (h 0 (omega arith) (λ e. absurd (omega (arith, e)))) in
    ap (λ z. z ∷ take n ys) first ∙ ap (λ zs. a ∷ zs) (front_but_one n i xs ys x y (omega arith) was is (λ k lower other. h (suc k) (omega (arith, lower)) (λ e. other (omega (arith, e)))))

-- a part of the whole, and of what stands behind a node
pub from_behind : {A : Type 0} (i : ℕ) (range : Option Children) (all : List A) → ((children : Children) → range ≡ Some children → i < children.first.0) → in_range i range (drop (suc i) all) ≡ in_table range all
from_behind i None all h = refl
from_behind i (Some children) all h =
    let behind = h children refl in
    let e : suc i + (children.first.0 - suc i) ≡ children.first.0 = omega (arith, behind) in
    ap (take children.count) (drop-drop (children.first.0 - suc i) (suc i) all ∙ ap (λ n. drop n all) e)

-- what stands at a number of a list with others behind it
pub get_append : {A : Type 0} (xs ys : List A) (i : ℕ) → i < length xs → slice_get (xs ++ ys) i ≡ slice_get xs i
get_append [] ys i h = absurd (omega arith)
get_append (x ∷ xs) ys zero h = refl
get_append (x ∷ xs) ys (suc i) h = get_append xs ys i (omega arith)

pub get_behind : {A : Type 0} (xs ys : List A) (k : ℕ) → slice_get (xs ++ ys) (length xs + k) ≡ slice_get ys k
get_behind [] ys k = let e : 0 + k ≡ k = omega arith in ap (slice_get ys) e
get_behind (x ∷ xs) ys k = let e : length (x ∷ xs) + k ≡ suc (length xs + k) = omega arith in ap (slice_get (x ∷ xs ++ ys)) e ∙ get_behind xs ys k

-- and of a list with one element replaced
pub get_set_same : {A : Type 0} (xs : List A) (i : ℕ) (y : A) → i < length xs → slice_get (slice_set xs i y) i ≡ Some y
get_set_same [] i y h = absurd (omega arith)
get_set_same (x ∷ xs) zero y h = refl
get_set_same (x ∷ xs) (suc i) y h = get_set_same xs i y (omega arith)

pub get_set_other : {A : Type 0} (xs : List A) (i k : ℕ) (y : A) → k ≢ i → slice_get (slice_set xs i y) k ≡ slice_get xs k
get_set_other [] i k y h = refl
get_set_other (x ∷ xs) zero zero y h = absurd (h refl)
get_set_other (x ∷ xs) zero (suc k) y h = refl
get_set_other (x ∷ xs) (suc i) zero y h = refl
get_set_other (x ∷ xs) (suc i) (suc k) y h = get_set_other xs i k y (λ e. h (ap (λ n. suc n) e))

pub length_set : {A : Type 0} (xs : List A) (i : ℕ) (y : A) → length (slice_set xs i y) ≡ length xs
length_set [] i y = refl
length_set (x ∷ xs) zero y = refl
length_set (x ∷ xs) (suc i) y = ap (λ n. suc n) (length_set xs i y)

-- what is read at a number stands there
pub read_there : {A : Type 0} (xs : List A) (i : ℕ) (x : A) → i < length xs → x ≡ get_or xs i x → slice_get xs i ≡ Some x
read_there [] i x h e = absurd (omega arith)
read_there (a ∷ xs) zero x h e = ap Some (sym e)
read_there (a ∷ xs) (suc i) x h e = read_there xs i x (omega arith) e
