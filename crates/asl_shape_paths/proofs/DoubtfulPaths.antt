-- A path that is told as a doubtful one is refused by the look-up in the shape that is told with it.
use Rattle.std.proofs.Common.{◌≡◌, ℕ, List, Result, Ok, Err, IfErr, IsErr, refl}
use Rattle.asl_model.specs.Path.{Segment}
use Rattle.asl_model.specs.Shape.{Shape}
use Rattle.asl_model.specs.ShapeFlow.{DoubtfulPath, look, or_doubtful, found}

-- what is told of a doubtful path, if one is told
abbrev pub IsRefused : Result Shape DoubtfulPath → Type 0
IsRefused answer = IfErr answer (λ d. IsErr (look d.path d.shape))

pub found_refused : (path : List Segment) (s : Shape) → IsRefused (found path s)
found_refused path s = go (look path s) refl
  where
    go : (r : Result Shape ℕ) → look path s ≡ r → IsRefused (or_doubtful path s r)
    go (Ok part) is = tt
    go (Err at) is = rw is refl
