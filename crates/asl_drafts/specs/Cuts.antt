-- What is remembered of shapes that were cut. No public clause cites this module.
use Rattle.std.specs.Prelude.{◌≡◌, ◌<◌, ℕ, List, length, map}
use Rattle.std.specs.List.{All}
use Rattle.asl_model.specs.Shape.{Shape}
use Rattle.asl_numbered.specs.Expansion.{shape_at, AreBelow, Shows}
use Rattle.asl_drafts.specs.Cutting.{cut_to}
use Rattle.asl_drafts.specs.declared.store.Cut.{Cut}

-- the shape that is cut so
abbrev pub cut_of : List Shape → Cut → Shape
cut_of table cut = cut_to cut.levels (shape_at table cut.number)

-- the number is that of the shape that is cut so
abbrev pub IsCut : List Shape → Cut × ℕ → Type 0
IsCut table entry = (entry.0.number < length table) × Shows table (cut_of table entry.0) entry.1

-- so each of them
pub record AreCuts (table : List Shape) (entries : List (Cut × ℕ)) : Type 0 where
  pub each : All (IsCut table) entries

-- the numbers in the new table are those of the shapes of the first numbers in the old one, cut to so many levels
pub record AreCutTo (levels : ℕ) (old : List Shape) (numbers : List ℕ) (new : List Shape) (cuts : List ℕ)
    : Type 0 where
  pub shapes : map (shape_at new) cuts ≡ map (λ n. cut_to levels (shape_at old n)) numbers
  pub below : AreBelow (length new) cuts
