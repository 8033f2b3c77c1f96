-- The counts of retriers, looked up, raised and made longer.
use Rattle.std.proofs.Common.{◌≡◌, ◌<◌, ◌≤◌, ◌+◌, ◌-◌, ◌++◌, ℕ, zero, suc, List, [], ◌∷◌, length, take, replicate, refl, ap, arith}
use Rattle.std.proofs.Math.ListN.{get_or, set}
use Rattle.asl_model.specs.Run.{count_at, one_higher}
use Rattle.asl_processing.specs.Troubles.{Reaches}

-- a count that is written
pub count_within : (cs : List ℕ) (i d : ℕ) → i < length cs → get_or cs i d ≡ count_at i cs
count_within [] i d h = absurd (omega arith)
count_within (c ∷ cs) zero d h = refl
count_within (c ∷ cs) (suc i) d h = count_within cs i d (omega arith)

-- one that isn't
pub count_past : (cs : List ℕ) (i : ℕ) → length cs ≤ i → 0 ≡ count_at i cs
count_past [] i h = refl
count_past (c ∷ cs) zero h = absurd (omega arith)
count_past (c ∷ cs) (suc i) h = count_past cs i (omega arith)

-- a written count is raised in its place
pub raised_within : (cs : List ℕ) (i n : ℕ) → i < length cs → n ≡ count_at i cs + 1 → set cs i n ≡ one_higher i cs
raised_within [] i n h e = absurd (omega arith)
raised_within (c ∷ cs) zero n h e =
    let higher : n ≡ suc c = omega (arith, e) in
    ap (λ m. m ∷ cs) higher
raised_within (c ∷ cs) (suc i) n h e = ap (λ l. c ∷ l) (raised_within cs i n (omega arith) e)

zeros_reach : (d : ℕ) → Reaches d [] (replicate (suc d) 0)
zeros_reach zero = record { written = omega arith; same_count = refl; same_raised = refl }
zeros_reach (suc d) =
    let less = zeros_reach d in
    record { written = omega (arith, less.written); same_count = less.same_count; same_raised = ap (λ l. 0 ∷ l) less.same_raised }

-- counts with zeros behind them
longer_reach : (cs : List ℕ) (i k : ℕ) → length cs ≤ i → length cs + k ≡ i + 1 → Reaches i cs (cs ++ replicate k 0)
longer_reach [] i k h e =
    let all : k ≡ suc i = omega (arith, e) in
    rw all (zeros_reach i)
longer_reach (c ∷ cs) zero k h e = absurd (omega arith)
longer_reach (c ∷ cs) (suc i) k h e =
    let less = longer_reach cs i k (omega arith) (omega (arith, e)) in
    record { written = omega (arith, less.written); same_count = less.same_count; same_raised = ap (λ l. c ∷ l) less.same_raised }

take_whole : (cs : List ℕ) (n : ℕ) → length cs ≤ n → take n cs ≡ cs
take_whole [] zero h = refl
take_whole [] (suc n) h = refl
take_whole (c ∷ cs) zero h = absurd (omega arith)
take_whole (c ∷ cs) (suc n) h = ap (λ l. c ∷ l) (take_whole cs n (omega arith))

-- counts that were filled up
pub filled_reach : (cs longer : List ℕ) (i : ℕ) → length cs ≤ i → longer ≡ take (i + 1) cs ++ replicate (i + 1 - length cs) 0 → Reaches i cs longer
filled_reach cs longer i h e =
    let whole : take (i + 1) cs ≡ cs = take_whole cs (i + 1) (omega arith) in
    rw (e, whole) (longer_reach cs i (i + 1 - length cs) h (omega (arith, h)))
