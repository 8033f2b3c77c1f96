-- Shapes narrowed by a test of a kind: what is left of the kind that is tested, and what the whole is with it.
use Rattle.std.proofs.Common.{◌≡◌, ℕ, List, Bool, false, Result, Ok, Err, IsOk, refl, sym, ◌∙◌}
use Rattle.asl_model.proofs.ShapeNarrow.{narrows}
use Rattle.asl_model.specs.Path.{Segment}
use Rattle.asl_model.specs.Shape.{Shape, Never, inhabited}
use Rattle.asl_model.specs.ShapeFlow.{look_at, put, by_kind, true_of}
use Rattle.asl_model.specs.Test.{ValueKind, IsOfKind}
use Rattle.asl_shape_rules.proofs.DoubtfulRules.{put_never}
use Rattle.asl_shape_paths.proofs.FoundPaths.{found_never}
use Rattle.asl_numbered.specs.Expansion.{IsNumberOf, Shows}
use Rattle.asl_numbered.specs.Laws.{number_shows}
use Rattle.asl_tree.specs.declared.OutOfMemory.{OutOfMemory}
use Rattle.std.specs.Prelude.{IfOk}

-- where a path is found, whatever is put there fits
pub fits_found : (path : List Segment) (w s : Shape) (at : ℕ) → IsOk (look_at path s) → put path w s ≡ Err at → ⊥
fits_found path w s at found e = go (look_at path s) refl found
  where
    go : (r : Result Shape ℕ) → look_at path s ≡ r → IsOk r → ⊥
    go (Ok part) is ok =
        let inner = narrows path w s part is in
        let same : Ok inner.0 ≡ Err at = sym inner.1 ∙ e in
        absurd (cc)
    go (Err k) is ok = absurd (cc)

module _ (path : List Segment) (kind : ValueKind) (wanted : Bool) (s : Shape) where
  -- a shape without a tree stays so
  pub never_tested : false ≡ inhabited s → true_of (IsOfKind path kind wanted) s ≡ Ok Never
  never_tested none = rw (found_never path s none, put_never path (by_kind kind wanted Never) s (sym none)) refl

-- the number of a shape shows an equal one
pub put_shown : (table : List Shape) (s t : Shape) (r : Result ℕ OutOfMemory) → s ≡ t → IfOk r (IsNumberOf table s) → IfOk r (Shows table t)
put_shown table s t (Ok n) e h = rw e at (number_shows table s n h)
put_shown table s t (Err refusal) e h = tt
