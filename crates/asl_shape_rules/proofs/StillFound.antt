-- What follows where a path is found, and what is still found in a table that has grown.
use Rattle.std.proofs.Common.{◌≡◌, ◌<◌, ℕ, List, length, Result, Ok, Err, refl, sym, ap}
use Rattle.asl_model.specs.Shape.{Shape}
use Rattle.asl_model.specs.ShapeFlow.{where_found}
use Rattle.asl_numbered.specs.Expansion.{shape_at, Keeps}
use Rattle.asl_numbered.specs.Laws.{kept_shape, kept_within}
use Rattle.asl_shape_paths.specs.Doubts.{found_view, IsFoundIn}
use Rattle.asl_shape_paths.specs.declared.doubts.DoubtfulPath.{DoubtfulPath}
use Rattle.asl_shape_paths.proofs.FoundPaths.{Answer}

-- ---- what follows where a path is found

-- what comes after the answer that the shape is found comes after what was found
pub then_on : (first : Answer) (s t : Shape) (next : Answer) → where_found first (Ok s) ≡ Ok t → where_found first next ≡ next
then_on (Ok part) s t next is = refl
then_on (Err d) s t next is = absurd (cc)

-- ---- a shape that stays as it is, in a table that has grown

module _ (old new : List Shape) (n : ℕ) (keeps : Keeps old new) (within : n < length old) where
  pub kept_found : Ok (shape_at old n) ≡ found_view new (Ok n)
  kept_found = ap Ok (sym (kept_shape old new n keeps within))

  -- where another answer only lets it through
  pub then_kept : (first : Answer) (r : Result ℕ DoubtfulPath) (m : ℕ) → first ≡ found_view new r → r ≡ Ok m → where_found first (Ok (shape_at old n)) ≡ found_view new (Ok n)
  then_kept first r m told is = rw (told, is) kept_found

  pub still_found : IsFoundIn (length new) (Ok n)
  still_found = record { within = kept_within old new n keeps within; below = tt }
