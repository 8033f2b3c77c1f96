-- Where the error output can't be placed.
use Rattle.std.proofs.Common.{◌≡◌, ◌∙◌, ℕ, List, Option, Some, None, ap, sym}
use Rattle.asl_model.specs.Path.{Segment}
use Rattle.asl_model.specs.Placing.{Places, placed}
use Rattle.asl_model.specs.Run.{error_output, error_placed}
use Rattle.asl_model.specs.Tree.{Tree}
use Rattle.asl_processing.proofs.Told.{nothing_placed}

-- nothing is handed on
pub nothing_handed_on : (path : Option (List Segment)) (p : List Segment) (w v raw : Tree) (error cause : List ℕ) → path ≡ Some p → w ≡ error_output error cause → v ≡ raw
    → ((u : Tree) → ¬ Places p w v u) → None ≡ error_placed path raw error cause
nothing_handed_on path p w v raw error cause given made same none =
    sym (nothing_placed p w v none) ∙ ap (λ t. placed p t v) made ∙ ap (λ t. placed p (error_output error cause) t) same ∙ sym (ap (λ q. error_placed q raw error cause) given)
