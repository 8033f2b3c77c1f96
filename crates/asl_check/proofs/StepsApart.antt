-- What is wrong at an edge of a state isn't that a path may name nothing.
use Rattle.std.proofs.Common.{◌≡◌, ◌≢◌, ℕ, zero, suc, List, [], ◌∷◌, ◌<◌, length, get_or, sym, subst, arith}
use Rattle.std.specs.List.{AllByRecursion}
use Rattle.std.specs.Prelude.{⊤}
use Rattle.asl_model.specs.Certificate.{StateShapes}
use Rattle.asl_model.specs.Edges.{Walked, Flows, Breaks, walk}
use Rattle.asl_model.specs.Finding.{PathMayBeMissing}
use Rattle.asl_model.specs.Machine.{Kind, Settings}
use Rattle.asl_model.specs.Shape.{Shape}
use Rattle.asl_state_edges.specs.View.{steps_of}
use Rattle.asl_state_edges.specs.declared.found.Step.{Step}
use Rattle.asl_state_edges.specs.declared.found.Step.TheVariants as step
use Rattle.asl_check.specs.Standing.{AreStepsApart, IsStepApart}
use Rattle.asl_check.proofs.WalkSteps.{IsOfWalk, edge_to_output, edge_to_next, edge_to_end, edge_to_child, edge_to_caught, edge_to_task, path_breaks, plain_breaks, AreOfWalk, walk_steps}

-- of a step of the definitions
abbrev IsApart : Walked → Type 0
IsApart (Flows edge) = edge.fault ≢ PathMayBeMissing
IsApart (Breaks breach) = ⊤

apart : (w : Walked) → IsOfWalk w → IsApart w
apart w edge_to_output = λ e. absurd (cc)
apart w edge_to_next = λ e. absurd (cc)
apart w edge_to_end = λ e. absurd (cc)
apart w edge_to_child = λ e. absurd (cc)
apart w edge_to_caught = λ e. absurd (cc)
apart w edge_to_task = λ e. absurd (cc)
apart w (path_breaks doubtful) = tt
apart w (plain_breaks plain) = tt

-- those of a walk
pub steps_apart : (table : List Shape) (steps : List Step) (gives : Shape) (settings : Settings) (kind : Kind) (entry : StateShapes) → steps_of table steps ≡ walk gives settings kind entry → AreStepsApart steps
steps_apart table steps gives settings kind entry is = by steps (subst AreOfWalk (sym is) (walk_steps gives settings kind entry)).each
  where
    by : (steps : List Step) → AllByRecursion IsOfWalk (steps_of table steps) → AreStepsApart steps
    by [] h = tt
    by (step.Flows e ∷ steps) h = (apart _ h.0, by steps h.1)
    by (step.Breaks b ∷ steps) h = (tt, by steps h.1)

-- of one of several steps
pub step_apart : (steps : List Step) (i : ℕ) (s : Step) → i < length steps → s ≡ get_or steps i s → AreStepsApart steps → IsStepApart s
step_apart steps i s within is h = subst IsStepApart (sym is) (at steps i within h)
  where
    at : (steps : List Step) (i : ℕ) → i < length steps → AreStepsApart steps → IsStepApart (get_or steps i s)
    at [] i within h = absurd (omega arith)
    at (x ∷ xs) zero within h = h.0
    at (x ∷ xs) (suc i) within h = at xs i (omega (arith, within)) h.1
