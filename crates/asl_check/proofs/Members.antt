-- Members of lists.
use Rattle.std.proofs.Common.{◌≡◌, List, [], ◌∷◌, map, refl, subst, arith, ◌⊎◌, inl, inr}
use Rattle.std.specs.List.{Contains}
use Rattle.std.proofs.lemmas.List.Elements.{Contains-append_right, Contains-append_cases, Contains-push_cases}
use Rattle.asl_model.proofs.ReadingLaws.{none_listed}

-- the first is one
pub first : {A : Type 0} (x : A) (xs : List A) → Contains (x ∷ xs) x
first x xs = (0, omega arith, refl)

-- one of the others is one
pub later : {A : Type 0} (x : A) (xs : List A) (y : A) → Contains xs y → Contains (x ∷ xs) y
later x xs y h = Contains-append_right (x ∷ []) xs y h

-- an empty list has none
pub no_member : {A : Type 0} (x : A) → Contains [] x → ⊥
no_member x h = none_listed [] x refl h

-- each is the first or one of the others
pub first_or_later : {A : Type 0} (x : A) (xs : List A) (y : A) → Contains (x ∷ xs) y → (x ≡ y) ⊎ Contains xs y
first_or_later x xs y h = by (Contains-append_cases (x ∷ []) xs y h)
  where
    alone : Contains [] y ⊎ (x ≡ y) → (x ≡ y) ⊎ Contains xs y
    alone (inl none) = absurd (no_member y none)
    alone (inr is) = inl is

    by : Contains (x ∷ []) y ⊎ Contains xs y → (x ≡ y) ⊎ Contains xs y
    by (inl here) = alone (Contains-push_cases [] x y here)
    by (inr there) = inr there

-- a list of one has no other
pub only : {A : Type 0} (x y : A) → Contains (x ∷ []) y → x ≡ y
only x y h = by (first_or_later x [] y h)
  where
    by : (x ≡ y) ⊎ Contains [] y → x ≡ y
    by (inl is) = is
    by (inr none) = absurd (no_member y none)

-- what a function gives of a member is among what it gives of all
pub given_of : {A B : Type 0} (f : A → B) (xs : List A) (x : A) → Contains xs x → Contains (map f xs) (f x)
given_of f [] x h = absurd (no_member x h)
given_of f (y ∷ ys) x h = by (first_or_later y ys x h) (given_of f ys x)
  where
    by : (y ≡ x) ⊎ Contains ys x → (Contains ys x → Contains (map f ys) (f x)) → Contains (f y ∷ map f ys) (f x)
    by (inl is) below = subst (λ z. Contains (f y ∷ map f ys) (f z)) is (first (f y) (map f ys))
    by (inr there) below = later (f y) (map f ys) (f x) (below there)
