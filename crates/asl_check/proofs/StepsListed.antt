-- What is listed of the steps of a walk, one after another.
use Rattle.std.proofs.Common.{◌≡◌, ◌<◌, ◌≤◌, ◌+◌, ℕ, zero, suc, List, [], ◌∷◌, ◌++◌, length, get_or, drop, refl, sym, ap, ◌∙◌, subst, drop-cons, add-one, arith}
use Rattle.std.proofs.lemmas.List.{drop_all, map-append}
use Rattle.asl_model.specs.Edges.{DestinationShapes, breaches_along, breaches_at}
use Rattle.asl_model.specs.Finding.{Breach, Finding, found_at}
use Rattle.asl_model.specs.Shape.{Shape}
use Rattle.asl_numbered.specs.Laws.{keeps_same}
use Rattle.asl_state_edges.specs.View.{step_view, steps_of, AreStepsBelow, IsStepBelow}
use Rattle.asl_state_edges.specs.declared.found.Step.{Step}
use Rattle.asl_check.specs.Listing.{Adds}
use Rattle.asl_check.specs.declared.listed.Listed.{Listed}
use Rattle.asl_check.proofs.Passes.{AreLeft, left_less, left_none}

-- the numbers of a step are in the table, where those of all are
pub step_below : (bound : ℕ) (steps : List Step) (i : ℕ) (step : Step) → i < length steps → step ≡ get_or steps i step → AreStepsBelow bound steps → IsStepBelow bound step
step_below bound steps i step within is below = subst (IsStepBelow bound) (sym is) (at steps i within below)
  where
    at : (steps : List Step) (i : ℕ) → i < length steps → AreStepsBelow bound steps → IsStepBelow bound (get_or steps i step)
    at [] i within below = absurd (omega arith)
    at (s ∷ steps) zero within below = below.0
    at (s ∷ steps) (suc i) within below = at steps i (omega (arith, within)) below.1

-- the rules of a name that are broken at the steps
module _ (table : List Shape) (standing : DestinationShapes) (n : List ℕ) where
  abbrev pub found_along : List Step → List Finding
  found_along steps = found_at n (breaches_along standing (steps_of table steps))

  -- those of the step at hand, and of those behind it
  at_hand : (steps : List Step) (i : ℕ) (step : Step) → i < length steps → step ≡ get_or steps i step → found_along (drop i steps) ≡ found_at n (breaches_at standing (step_view table step)) ++ found_along (drop (i + 1) steps)
  at_hand steps i step within is =
      let split : drop i steps ≡ step ∷ drop (i + 1) steps = drop-cons steps i step within ∙ rw (← is, add-one) refl in
      ap found_along split ∙ map-append (λ (b : Breach). record { state = n; field = b.field; fault = b.fault; example = b.example }) (breaches_at standing (step_view table step)) (breaches_along standing (steps_of table (drop (i + 1) steps)))

  -- one more step
  pub step_listed : (before now next : List Listed) (whole : List Finding) (steps : List Step) (i : ℕ) (step : Step) (told : List Breach) → i < length steps → step ≡ get_or steps i step → told ≡ breaches_at standing (step_view table step)
      → AreLeft table before now whole (found_along (drop i steps)) → Adds table now next (found_at n told) → AreLeft table before next whole (found_along (drop (i + 1) steps))
  step_listed before now next whole steps i step told within is by l a =
      left_less table table before now next whole (found_at n (breaches_at standing (step_view table step))) (found_along (drop (i + 1) steps)) (keeps_same table) (subst (AreLeft table before now whole) (at_hand steps i step within is) l) (subst (λ breaches. Adds table now next (found_at n breaches)) by a)

  -- all are listed
  pub steps_listed : (before now : List Listed) (whole : List Finding) (steps : List Step) (i : ℕ) → length steps ≤ i → AreLeft table before now whole (found_along (drop i steps)) → Adds table before now whole
  steps_listed before now whole steps i end l = left_none table before now whole (found_along (drop i steps)) (ap found_along (drop_all i steps end)) l
