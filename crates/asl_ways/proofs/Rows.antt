-- States that are looked up in a certificate.
use Rattle.std.proofs.Common.{◌≡◌, ℕ, List, [], ◌∷◌, Option, Some, None, Bool, true, false, cond, Bor, option_map, String, string_bytes, refl, sym, ap, ◌∙◌, subst}
use Rattle.std.specs.Option.{option_copied}
use Rattle.std.specs.Prelude.{IfSome}
use Rattle.std.specs.declared.alloc.Global.{Global}
use Rattle.std.specs.BTreeMap.{is_at}
use Rattle.std.specs.Map.{lookup}
use Rattle.std.specs.List.{AllByRecursion}
use Rattle.std.specs.Ordering.{nat_cmp}
use Rattle.std.specs.Cmp.Lexicographic.{slice_cmp}
use Rattle.asl_model.specs.Certificate.{under}
use Rattle.asl_model.specs.Shape.{Shape}
use Rattle.asl_records.specs.Numbered.{AreEntriesBelow, AreNumbersBelow, numbered_entries, numbers_view}
use Rattle.asl_records.specs.declared.records.StateNumbers.{StateNumbers}
use Rattle.asl_shape.proofs.Lookups.{picked, same_name}

-- what stands under a name
abbrev value_of : List ℕ → List (String Global × StateNumbers) → Option StateNumbers
value_of n es = lookup (is_at (λ (k : String Global). slice_cmp nat_cmp n (string_bytes k))) es

entry_looked_up : (table : List Shape) (n : List ℕ) (es : List (String Global × StateNumbers)) → under n (numbered_entries table es) ≡ option_map (numbers_view table) (value_of n es)
entry_looked_up table n [] = refl
entry_looked_up table n (e ∷ es) = rw (same_name n (string_bytes e.0), entry_looked_up table n es) (picked (numbers_view table) e.1 _ _)

-- an entry that is lent is seen as it is
entry_seen : (table : List Shape) (entry : Option (Bor StateNumbers)) → option_map (λ e. numbers_view table e.now) entry ≡ option_map (numbers_view table) (option_copied entry)
entry_seen table None = refl
entry_seen table (Some e) = refl

pub entry_lent : (table : List Shape) (n : List ℕ) (es : List (String Global × StateNumbers)) (entry : Option (Bor StateNumbers)) → option_copied entry ≡ value_of n es → option_map (λ e. numbers_view table e.now) entry ≡ under n (numbered_entries table es)
entry_lent table n es entry e = entry_seen table entry ∙ ap (option_map (numbers_view table)) e ∙ sym (entry_looked_up table n es)

-- its numbers are those of the certificate's table
entry_below : (bound : ℕ) (n : List ℕ) (es : List (String Global × StateNumbers)) (entry : StateNumbers) → Some entry ≡ value_of n es → AreEntriesBelow bound es → AreNumbersBelow bound entry
entry_below bound n es entry found below = by es found below.each
  where
    by : (es : List (String Global × StateNumbers)) → Some entry ≡ value_of n es → AllByRecursion (λ (e : String Global × StateNumbers). AreNumbersBelow bound e.1) es → AreNumbersBelow bound entry
    by [] found below = absurd (cc)
    by (e ∷ es) found below = go (is_at (λ (k : String Global). slice_cmp nat_cmp n (string_bytes k)) e.0) found (by es)
      where
        go : (b : Bool) → Some entry ≡ cond b (Some e.1) (value_of n es) → (Some entry ≡ value_of n es → AllByRecursion (λ (e : String Global × StateNumbers). AreNumbersBelow bound e.1) es → AreNumbersBelow bound entry) → AreNumbersBelow bound entry
        go true is others =
            let same : e.1 ≡ entry = cc in
            subst (AreNumbersBelow bound) same below.0
        go false is others = others is below.1

pub lent_below : (bound : ℕ) (n : List ℕ) (es : List (String Global × StateNumbers)) (entry : Option (Bor StateNumbers)) → option_copied entry ≡ value_of n es → AreEntriesBelow bound es → IfSome entry (λ e. AreNumbersBelow bound e.now)
lent_below bound n es None is below = tt
lent_below bound n es (Some e) is below = entry_below bound n es e.now is below
