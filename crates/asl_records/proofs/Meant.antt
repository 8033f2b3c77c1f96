-- Listed trees that are meant in a table are meant in one that has grown from it.
use Rattle.std.proofs.Common.{◌≡◌, ℕ, List, length, Bool, Option, Some, None, option_map, MatchOption, Bor, Vec, Global, vec_len, refl, sym, ap, subst, ◌∙◌}
use Rattle.std.specs.Option.{IsSomeAnd}
use Rattle.asl_model.specs.Records.{Reading}
use Rattle.asl_model.specs.Tree.{Tree}
use Rattle.asl_numbered.specs.Expansion.{Keeps}
use Rattle.asl_numbered.specs.References.{numbers_given}
use Rattle.asl_numbered.specs.Laws.{kept_numbers, kept_shapes}
use Rattle.asl_model.specs.Shape.{Shape}
use Rattle.asl_records.specs.Listed.{AreInTable, Mean, IsReading}

module _ (old new : List Shape) (keeps : Keeps old new) where
  -- the numbers are still there
  pub still_there : (numbers : Option (Bor (List ℕ))) → AreInTable old numbers → AreInTable new numbers
  still_there None h = record { below = tt }
  still_there (Some ns) h = record { below = kept_numbers old new ns.now keeps h.below }

  mean : (several : Bool) (numbers : Option (Bor (List ℕ))) (listed : Option (List Tree)) → AreInTable old numbers → Mean several old (numbers_given numbers) listed → Mean several new (numbers_given numbers) listed
  mean several None None within meant = meant
  mean several None (Some trees) within meant = meant
  mean several (Some ns) None within meant = meant
  mean several (Some ns) (Some trees) within meant = record { shapes = meant.shapes ∙ sym (kept_shapes old new ns.now keeps within.below); right = meant.right }

  -- and mean the same
  pub still_meant : {several : Bool} (numbers : Option (Bor (List ℕ))) (reading : Reading) → AreInTable old numbers → IsReading several old (numbers_given numbers) reading → IsReading several new (numbers_given numbers) reading
  still_meant numbers reading within means = record { same = means.same; meant = mean _ numbers reading.listed within means.meant }

-- ---- numbers that are kept, and lent

abbrev pub kept_items : Option (Vec ℕ Global) → Option (List ℕ)
kept_items kept = option_map (λ ns. ns.items) kept

-- what is lent of them
abbrev pub IsLent : Option (Vec ℕ Global) → Option (Bor (List ℕ)) → Type 0
IsLent kept lent = MatchOption kept (lent ≡ None) (λ v. IsSomeAnd lent (λ y. (y.now ≡ v.items) × (length y.now ≡ vec_len v)))

lent_same : (kept : Option (Vec ℕ Global)) (lent : Option (Bor (List ℕ))) → IsLent kept lent → numbers_given lent ≡ kept_items kept
lent_same None None h = refl
lent_same None (Some ns) h = absurd (cc)
lent_same (Some v) None h = absurd h
lent_same (Some v) (Some ns) h = ap Some h.0

pub lent_meant : (several : Bool) (table : List Shape) (kept : Option (Vec ℕ Global)) (lent : Option (Bor (List ℕ))) (reading : Reading) → IsLent kept lent → IsReading several table (kept_items kept) reading → IsReading several table (numbers_given lent) reading
lent_meant several table kept lent reading is means = subst (λ ns. IsReading several table ns reading) (sym (lent_same kept lent is)) means
