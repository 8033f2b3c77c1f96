-- Lists whose elements are rewritten in place, one after another.
use Rattle.std.proofs.Common.{◌≡◌, ◌≢◌, ◌<◌, ◌+◌, ℕ, zero, suc, List, [], ◌∷◌, length, map, slice_index_or, slice_set, get_or-set_other, get_or-set_same, below_more, ap, ◌∙◌, ◌≤◌, ◌++◌, take, drop, append-nil, arith}
use Rattle.std.proofs.lemmas.List.{drop_all, take_all}

-- what is seen of them stays the same
pub same_seen : {A B : Type 0} (f : A → B) (xs : List A) (i : ℕ) (x d : A) → i < length xs → f x ≡ f (slice_index_or xs i d) → map f (slice_set xs i x) ≡ map f xs
same_seen f [] i x d within e = absurd (omega arith)
same_seen f (y ∷ ys) zero x d within e = ap (λ b. b ∷ map f ys) e
same_seen f (y ∷ ys) (suc i) x d within e = ap (λ bs. f y ∷ bs) (same_seen f ys i x d (omega arith) e)

-- of one more that holds
pub one_more_holds : {A : Type 0} (P : A → Type 0) (xs : List A) (i : ℕ) (x : A) → i < length xs → P x → ((k : ℕ) (d : A) → k < i → P (slice_index_or xs k d)) → (k : ℕ) (d : A) → k < i + 1 → P (slice_index_or (slice_set xs i x) k d)
one_more_holds P xs i x within holds before k d =
    below_more (λ j. P (slice_index_or (slice_set xs i x) j d)) i
    (λ j h. let other : j ≢ i = omega arith in rw get_or-set_other (before j d h))
    (rw get_or-set_same holds) k

-- all are rewritten, and none is behind them
pub all_rewritten : {A : Type 0} (xs old : List A) (n : ℕ) → n ≡ length xs → length old ≡ length xs → take n (xs ++ drop (length xs) old) ≡ xs
all_rewritten xs old n many same =
    let past : length old ≤ length xs = omega arith in
    let whole : xs ++ drop (length xs) old ≡ xs = ap (λ rest. xs ++ rest) (drop_all (length xs) old past) ∙ append-nil xs in
    let within : length xs ≤ n = omega arith in
    ap (take n) whole ∙ take_all n xs within
