-- Paths that are found in shapes of a table, or are doubtful there.
use Rattle.std.proofs.Common.{◌≡◌, ℕ, List, length, true, false, Result, Ok, Err, IfOk, refl}
use Rattle.asl_model.specs.Path.{Segment}
use Rattle.asl_model.specs.Shape.{Shape, Never, inhabited}
use Rattle.asl_model.specs.ShapeFlow as model
use Rattle.asl_model.specs.ShapeFlow.{look, look_at, or_doubtful, found}
use Rattle.asl_numbered.specs.Expansion.{shape_at, AreDistinct, IsNumberOf}
use Rattle.asl_numbered.specs.Laws.{own_number}
use Rattle.asl_shape_paths.specs.Doubts.{IsFoundIn}
use Rattle.asl_shape_paths.specs.declared.doubts.DoubtfulPath.{DoubtfulPath}

abbrev pub Answer : Type 0
Answer = Result Shape model.DoubtfulPath

-- of a shape that some tree has the whole path is looked up
pub found_there : (path : List Segment) (s : Shape) (answer : Answer) → true ≡ inhabited s → or_doubtful path s (look_at path s) ≡ answer → found path s ≡ answer
found_there path s answer live is = rw (← live) is

-- of another it is Never
pub found_never : (path : List Segment) (s : Shape) → false ≡ inhabited s → found path s ≡ Ok Never
found_never path s none = rw (← none) refl

-- the number that is found is that of its shape
pub found_own : (table : List Shape) (r : Result ℕ DoubtfulPath) → AreDistinct table → IsFoundIn (length table) r → IfOk r (λ n. IsNumberOf table (shape_at table n) n)
found_own table (Ok n) distinct within = own_number table n distinct within.within
found_own table (Err d) distinct within = tt

-- nothing is refused in a shape that no tree has
pub never_refused : (path : List Segment) (s : Shape) (at : ℕ) → inhabited s ≡ false → look path s ≡ Err at → ⊥
never_refused path s at none is =
    let never : Ok Never ≡ Err at = rw none at is in
    absurd (cc)
