-- Lists of which one element is changed.
use Rattle.std.proofs.Common.{◌≡◌, ◌<◌, ℕ, zero, suc, List, [], ◌∷◌, length, map, slice_index_or, slice_set, Result, Ok, Err, OnOk, OnErr, arith, ap, sym, ◌∙◌}
use Rattle.std.proofs.lemmas.List.{map-set, get_or-map}

-- what is seen of them changes at that place alone
pub one_changed : {A B : Type 0} (f : A → B) (xs : List A) (i : ℕ) (x y : A) (d : B) (change : B → B) → i < length xs → x ≡ slice_index_or xs i x → f y ≡ change (f x) → map f (slice_set xs i y) ≡ slice_set (map f xs) i (change (slice_index_or (map f xs) i d))
one_changed f xs i x y d change within there changed =
    let seen : slice_index_or (map f xs) i d ≡ f x = get_or-map f xs i x d within ∙ ap f (sym there) in
    map-set f xs i y ∙ ap (λ z. slice_set (map f xs) i z) (changed ∙ ap change (sym seen))

-- where it looks the same, all do
pub none_changed : {A B : Type 0} (f : A → B) (xs : List A) (i : ℕ) (x y : A) → i < length xs → x ≡ slice_index_or xs i x → f y ≡ f x → map f (slice_set xs i y) ≡ map f xs
none_changed f [] i x y within there same = absurd (omega arith)
none_changed f (z ∷ zs) zero x y within there same = ap (λ b. b ∷ map f zs) (same ∙ ap f there)
none_changed f (z ∷ zs) (suc i) x y within there same = ap (λ bs. f z ∷ bs) (none_changed f zs i x y (omega arith) there same)

-- so where a change goes well, and where it is refused
pub when_changed : {A B T E : Type 0} (r : Result T E) (f : A → B) (xs : List A) (i : ℕ) (x y : A) (d : B) (change : B → B) → i < length xs → x ≡ slice_index_or xs i x → OnOk r (f y ≡ change (f x)) → OnOk r (map f (slice_set xs i y) ≡ slice_set (map f xs) i (change (slice_index_or (map f xs) i d)))
when_changed (Ok t) f xs i x y d change within there changed = one_changed f xs i x y d change within there changed
when_changed (Err e) f xs i x y d change within there changed = changed

pub unless_changed : {A B T E : Type 0} (r : Result T E) (f : A → B) (xs : List A) (i : ℕ) (x y : A) → i < length xs → x ≡ slice_index_or xs i x → OnErr r (f y ≡ f x) → OnErr r (map f (slice_set xs i y) ≡ map f xs)
unless_changed (Ok t) f xs i x y within there same = same
unless_changed (Err e) f xs i x y within there same = none_changed f xs i x y within there same
