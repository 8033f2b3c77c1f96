-- What is in a list, by how the list is made.
use Rattle.std.proofs.Common.{◌≡◌, zero, suc, List, [], ◌∷◌, map, Contains, refl, subst, ◌⊎◌, inl, inr, arith}

-- nothing is in the empty list
pub none_in : {A B : Type 0} (x : A) → Contains [] x → B
none_in x c = absurd (omega (arith, c.1))

-- the first is in it
pub first_in : {A : Type 0} (x : A) (xs : List A) → Contains (x ∷ xs) x
first_in x xs = (0, omega arith, refl)

-- so are the others
pub later_in : {A : Type 0} (x y : A) (xs : List A) → Contains xs y → Contains (x ∷ xs) y
later_in x y xs c = (suc c.0, omega (arith, c.1), c.2)

-- what is in a list is its first or one of the others
pub first_or_later : {A : Type 0} (x y : A) (xs : List A) → Contains (x ∷ xs) y → (x ≡ y) ⊎ Contains xs y
first_or_later x y xs (zero, less, e) = inl e
first_or_later x y xs (suc k, less, e) = inr (k, omega (arith, less), e)

-- what a function makes of something in a list is in what it makes of the list
pub map_in : {A B : Type 0} (f : A → B) (xs : List A) (x : A) → Contains xs x → Contains (map f xs) (f x)
map_in f [] x c = none_in x c
map_in f (y ∷ xs) x c = go (first_or_later y x xs c) (map_in f xs x)
  where
    go : (y ≡ x) ⊎ Contains xs x → (Contains xs x → Contains (map f xs) (f x)) → Contains (f y ∷ map f xs) (f x)
    go (inl e) below = subst (λ z. Contains (f y ∷ map f xs) (f z)) e (first_in (f y) (map f xs))
    go (inr c) below = later_in (f y) (f x) (map f xs) (below c)

-- and all of that is made so
pub in_map : {A B : Type 0} (f : A → B) (xs : List A) (y : B) → Contains (map f xs) y → (x : A) × Contains xs x × (f x ≡ y)
in_map f [] y c = none_in y c
in_map f (x ∷ xs) y c = go (first_or_later (f x) y (map f xs) c) (in_map f xs y)
  where
    go : (f x ≡ y) ⊎ Contains (map f xs) y → (Contains (map f xs) y → (z : _) × Contains xs z × (f z ≡ y)) → (z : _) × Contains (x ∷ xs) z × (f z ≡ y)
    go (inl e) below = (x, first_in x xs, e)
    go (inr c) below = let w = below c in (w.0, later_in x w.0 xs w.1, w.2)
