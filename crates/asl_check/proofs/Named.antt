-- Names that are looked up in the map of a certificate.
use Rattle.std.proofs.Common.{◌≡◌, ℕ, List, [], ◌∷◌, Option, option_map, String, string_bytes, refl}
use Rattle.std.specs.declared.alloc.Global.{Global}
use Rattle.std.specs.BTreeMap.{is_at}
use Rattle.std.specs.Map.{lookup}
use Rattle.std.specs.Ordering.{nat_cmp}
use Rattle.std.specs.Cmp.Lexicographic.{slice_cmp}
use Rattle.asl_model.specs.Certificate.{under}
use Rattle.asl_model.specs.Shape.{Shape}
use Rattle.asl_records.specs.Numbered.{numbered_entries, numbers_view}
use Rattle.asl_records.specs.declared.records.StateNumbers.{StateNumbers}
use Rattle.asl_shape.proofs.Lookups.{picked, same_name}

-- what stands under a name in a map
abbrev pub value_of : {A : Type 0} → List ℕ → List (String Global × A) → Option A
value_of n es = lookup (is_at (λ (k : String Global). slice_cmp nat_cmp n (string_bytes k))) es

-- an entry
pub entry_looked_up : (table : List Shape) (n : List ℕ) (es : List (String Global × StateNumbers)) → under n (numbered_entries table es) ≡ option_map (numbers_view table) (value_of n es)
entry_looked_up table n [] = refl
entry_looked_up table n (e ∷ es) = rw (same_name n (string_bytes e.0), entry_looked_up table n es) (picked (numbers_view table) e.1 _ _)
