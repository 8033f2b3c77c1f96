-- The shapes of the functions' values, for the numbers of the shapes of their arguments.
use Rattle.std.proofs.Common.{◌≡◌, ℕ, suc, List, [], ◌∷◌, length, nat_eq, Option, Some, None, option_map, refl, sym, ap, ◌∙◌}
use Rattle.asl_model.specs.Intrinsic.{Pieces}
use Rattle.asl_model.specs.Shape as model
use Rattle.asl_model.specs.ShapeFlow as flow
use Rattle.asl_numbered.specs.Expansion.{shapes_at, Shows}
use Rattle.asl_flow.specs.CallAnswer.{Answers}

-- what shows a shape answers where that is the one
pub answered : (table : List model.Shape) (s : model.Shape) (n : ℕ) (shape : Option model.Shape) → shape ≡ Some s → Shows table s n → Answers table shape (Some n)
answered table s n shape is shows = record { same = is ∙ ap Some (sym shows.same); within = shows.within }

-- how many shapes there are
counted : (table : List model.Shape) (ns : List ℕ) → flow.how_many_shapes (shapes_at table ns) ≡ length ns
counted table [] = refl
counted table (n ∷ ns) = ap suc (counted table ns)

-- the holes of a literal text are as many as there are other arguments
pub holes_fit : (literal : Option Pieces) (s : model.Shape) (table : List model.Shape) (others : List ℕ) (holes : ℕ) → Some holes ≡ option_map (λ pieces. length pieces.after_holes) literal → nat_eq holes (length others) ≡ flow.fits_holes literal s (shapes_at table others)
holes_fit None s table others holes is = absurd (cc)
holes_fit (Some pieces) s table others holes is =
    let same : holes ≡ length pieces.after_holes = cc in
    rw (same, counted table others) refl

-- ---- `States.ArrayLength`

-- it takes one argument
pub one_argument : (table : List model.Shape) (ns : List ℕ) → (length ns ≡ 1 → ⊥) → flow.array_length_of (Some (shapes_at table ns)) ≡ None
one_argument table [] h = refl
one_argument table (n ∷ []) h = absurd (h refl)
one_argument table (n ∷ m ∷ ns) h = refl
