-- Parts of a list.
use Rattle.std.proofs.Common.{◌≡◌, ◌+◌, ◌-◌, ◌≤◌, ℕ, List, length, take, drop, slice_range, arith, sym, ap, ◌∙◌}
use Rattle.std.proofs.lemmas.List.{drop-take, drop-drop, length-take}

-- what is left of a part when its first elements are passed over
pub range_passed : (xs : List ℕ) (start end count : ℕ) → count ≤ length (slice_range xs start end)
    → slice_range xs (start + count) end ≡ drop count (slice_range xs start end)
range_passed xs start end count inside =
    let within : count ≤ end - start = omega (arith, length-take {A = ℕ}) in
    let parts : end - start ≡ count + (end - (start + count)) = omega arith in
    sym (ap (λ j. drop count (take j (drop start xs))) parts ∙ drop-take count _ (drop start xs)
    ∙ ap (take (end - (start + count))) (drop-drop count start xs))
