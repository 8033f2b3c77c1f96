-- What stands at places of lists.
use Rattle.std.proofs.Common.{◌≡◌, ◌<◌, ◌≤◌, ◌⊎◌, inl, inr, ℕ, zero, suc, ◌+◌, add-one, List, [], ◌∷◌, ◌++◌, length, slice_get, get_or, map, take, Some, Contains, refl, sym, ap, arith}
use Rattle.std.proofs.lemmas.Option.{get_or_from_slice_get, slice_get-get_or, slice_get_within}
use Rattle.asl_model.proofs.RunOptions.{some_inj}

pub no_element : {X : Type 0} (x : X) → Contains [] x → ⊥
no_element x (k, within, is) = omega (arith, within)

pub only_element : {X : Type 0} (y x : X) → Contains (y ∷ []) x → y ≡ x
only_element y x (zero, within, is) = is
only_element y x (suc k, within, is) = absurd (omega (arith, within))

-- what stands at a place
pub contains_at : {X : Type 0} (xs : List X) (k : ℕ) (x : X) → slice_get xs k ≡ Some x → Contains xs x
contains_at xs k x e = (k, slice_get_within xs k x e, get_or_from_slice_get xs k x x e)

-- the place of what stands there
pub place_of : {X : Type 0} (xs : List X) (x : X) → Contains xs x → (k : ℕ) × (slice_get xs k ≡ Some x)
place_of xs x (k, within, is) = (k, rw (slice_get-get_or xs k x within, is) refl)

-- in front of others
pub front_at : {X : Type 0} (xs ys : List X) (k : ℕ) → k < length xs → slice_get (xs ++ ys) k ≡ slice_get xs k
front_at [] ys k h = absurd (omega (arith, h))
front_at (x ∷ xs) ys zero h = refl
front_at (x ∷ xs) ys (suc k) h = front_at xs ys k (omega (arith, h))

-- it stands in front, or among those behind
pub front_or_behind : {X : Type 0} (xs ys : List X) (k : ℕ) (x : X) → slice_get (xs ++ ys) k ≡ Some x → ((k < length xs) × (slice_get xs k ≡ Some x)) ⊎ ((length xs ≤ k) × Contains ys x)
front_or_behind [] ys k x e = inr (omega arith, contains_at ys k x e)
front_or_behind (y ∷ xs) ys zero x e = inl (omega arith, e)
front_or_behind (y ∷ xs) ys (suc k) x e = elim (front_or_behind xs ys k x e) [
  | inl here ↦ (let within = here.0 in inl (omega (arith, within), here.1))
  | inr there ↦ (let past = there.0 in inr (omega (arith, past), there.1))
]

-- what stands behind others, and they themselves in front of it
pub last_at : {X : Type 0} (xs : List X) (y : X) (k : ℕ) (x : X) → length xs ≤ k → slice_get (xs ++ y ∷ []) k ≡ Some x → (x ≡ y) × (take k (xs ++ y ∷ []) ≡ xs)
last_at [] y zero x h e = (sym (some_inj e), refl)
last_at [] y (suc k) x h e = absurd (cc)
last_at (z ∷ xs) y zero x h e = absurd (omega (arith, h))
last_at (z ∷ xs) y (suc k) x h e = let behind = last_at xs y k x (omega (arith, h)) e in (behind.0, ap (λ zs. z ∷ zs) behind.1)

-- one more of the first is seen
pub mapped_more : {X Y : Type 0} (f : X → Y) (xs : List X) (i : ℕ) (d : X) → i < length xs → map f (take (i + 1) xs) ≡ map f (take i xs) ++ f (get_or xs i d) ∷ []
mapped_more f xs i d h = rw (add-one i) (by f xs i d h)
  where
    by : {X Y : Type 0} (f : X → Y) (xs : List X) (i : ℕ) (d : X) → i < length xs → map f (take (suc i) xs) ≡ map f (take i xs) ++ f (get_or xs i d) ∷ []
    by f [] i d h = absurd (omega (arith, h))
    by f (x ∷ xs) zero d h = refl
    by f (x ∷ xs) (suc i) d h = ap (λ ys. f x ∷ ys) (by f xs i d (omega (arith, h)))
