-- The position of a value in a list whose elements were mapped.
use Rattle.std.proofs.Common.{◌≡◌, refl, ap, ◌∙◌, cond, ℕ, ◌+◌, Bool, not, List, [], ◌∷◌, map, position, length, nat_lt, Option, Some, None}
use Rattle.std.specs.List.{position_or_len}
use Rattle.std.proofs.lemmas.List.{length-map}

-- as many elements fail the test in front of the first that passes
position_or_len-map : {A B : Type 0} (p : B → Bool) (f : A → B) (xs : List A) → position_or_len p (map f xs) ≡ position_or_len (λ x. p (f x)) xs
position_or_len-map p f [] = refl
position_or_len-map p f (x ∷ xs) = ap (λ n. cond (not (p (f x))) (1 + n) 0) (position_or_len-map p f xs)

-- the position, where so many fail in front of the first that passes, and there are that many
abbrev at_place : ℕ → ℕ → Option ℕ
at_place i n = cond (nat_lt i n) (Some i) None

-- a test of what the elements are mapped to
pub position-map : {A B : Type 0} (p : B → Bool) (f : A → B) (xs : List A) → position p (map f xs) ≡ position (λ x. p (f x)) xs
position-map p f xs = ap (λ i. at_place i (length (map f xs))) (position_or_len-map p f xs) ∙ ap (at_place (position_or_len (λ x. p (f x)) xs)) (length-map xs f)
