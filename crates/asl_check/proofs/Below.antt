-- Numbers of a certificate that are looked up are in its table.
use Rattle.std.proofs.Common.{◌≡◌, ◌<◌, ℕ, zero, suc, List, [], ◌∷◌, slice_get, Some, cond, String, string_bytes, Bool, true, false, subst}
use Rattle.std.specs.Prelude.{IfSome}
use Rattle.std.specs.declared.alloc.Global.{Global}
use Rattle.std.specs.BTreeMap.{is_at}
use Rattle.std.specs.Cmp.Lexicographic.{slice_cmp}
use Rattle.std.specs.List.{AllByRecursion}
use Rattle.std.specs.Ordering.{nat_cmp}
use Rattle.asl_numbered.specs.Expansion.{AreBelow}
use Rattle.asl_records.specs.Numbered.{AreEntriesBelow, AreNumbersBelow}
use Rattle.asl_records.specs.declared.records.StateNumbers.{StateNumbers}
use Rattle.asl_check.proofs.Named.{value_of}

-- those of an entry that stands under a name
pub entry_below : (bound : ℕ) (n : List ℕ) (es : List (String Global × StateNumbers)) (entry : StateNumbers) → Some entry ≡ value_of n es → AreEntriesBelow bound es → AreNumbersBelow bound entry
entry_below bound n es entry found below = by es found below.each
  where
    by : (es : List (String Global × StateNumbers)) → Some entry ≡ value_of n es → AllByRecursion (λ (e : String Global × StateNumbers). AreNumbersBelow bound e.1) es → AreNumbersBelow bound entry
    by [] found below = absurd (cc)
    by (e ∷ es) found below = go (is_at (λ (k : String Global). slice_cmp nat_cmp n (string_bytes k)) e.0) found (by es)
      where
        go : (b : Bool) → Some entry ≡ cond b (Some e.1) (value_of n es) → (Some entry ≡ value_of n es → AllByRecursion (λ (e : String Global × StateNumbers). AreNumbersBelow bound e.1) es → AreNumbersBelow bound entry) → AreNumbersBelow bound entry
        go true is others =
            let same : e.1 ≡ entry = cc in
            subst (AreNumbersBelow bound) same below.0
        go false is others = others is below.1

-- that of a branch
pub branch_below : (bound i : ℕ) (ns : List ℕ) → AreBelow bound ns → IfSome (slice_get ns i) (λ n. n < bound)
branch_below bound i [] below = tt
branch_below bound zero (n ∷ ns) below = below.0
branch_below bound (suc i) (n ∷ ns) below = branch_below bound i ns below.1
