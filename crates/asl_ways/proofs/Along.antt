-- What comes along the steps of a walk, one after another.
use Rattle.std.proofs.Common.{◌≡◌, ◌<◌, ◌≤◌, ◌+◌, ℕ, zero, suc, List, [], ◌∷◌, ◌++◌, length, get_or, drop, Option, option_map, option_to_list, refl, sym, ap, ◌∙◌, subst, append_assoc, drop-cons, add-one, arith}
use Rattle.std.specs.Prelude.{IfSome}
use Rattle.std.proofs.lemmas.List.{append-nil, drop_all}
use Rattle.asl_model.specs.Numbering.{Table}
use Rattle.asl_model.specs.Shape.{Shape}
use Rattle.asl_numbered.specs.Laws.{keeps_same}
use Rattle.asl_state_edges.specs.View.{step_view, steps_of, AreStepsBelow, IsStepBelow}
use Rattle.asl_state_edges.specs.declared.found.Step.{Step}
use Rattle.asl_ways.specs.Adding.{Adds}
use Rattle.asl_ways.specs.Coming.{Coming, coming, comes_along, comes_at}
use Rattle.asl_ways.specs.Exits.{none_passed, passed_on}
use Rattle.asl_ways.specs.declared.arriving.Arrival.{Arrival}
use Rattle.asl_ways.specs.declared.exits.Passed.{Passed}
use Rattle.asl_ways.proofs.Added.{adds_any, adds_none, adds_same, adds_then}

-- the number of a step is below the bound, where those of all are
pub step_below : (bound : ℕ) (steps : List Step) (i : ℕ) (step : Step) → i < length steps → step ≡ get_or steps i step → AreStepsBelow bound steps → IsStepBelow bound step
step_below bound steps i step within is below = subst (IsStepBelow bound) (sym is) (at steps i within below)
  where
    at : (steps : List Step) (i : ℕ) → i < length steps → AreStepsBelow bound steps → IsStepBelow bound (get_or steps i step)
    at [] i within below = absurd (omega arith)
    at (s ∷ steps) zero within below = below.0
    at (s ∷ steps) (suc i) within below = at steps i (omega (arith, within)) below.1

module _ (table : List Shape) (machine : Table) (number : ℕ) (steps : List Step) (before : List Arrival) where
  -- What came along the first steps is added, and what comes along the others is left.
  pub record GoesAlong (passed : Passed) (first : ℕ) (now : List Arrival) : Type 0 where
    pub done : List Coming
    pub adds : Adds table before now done
    pub whole : done ++ comes_along machine number passed (steps_of table (drop first steps)) ≡ comes_along machine number none_passed (steps_of table steps)

  pub along_none : GoesAlong none_passed 0 before
  along_none = record { done = []; adds = adds_none table before; whole = refl }

  pub along_then : (passed next : Passed) (first : ℕ) (now after : List Arrival) (step : Step) (arrival : Option Arrival) → first < length steps → step ≡ get_or steps first step → GoesAlong passed first now
      → after ≡ now ++ option_to_list arrival → option_to_list (option_map (coming table) arrival) ≡ comes_at machine number passed (step_view table step) → IfSome arrival (λ a. a.shape < length table) → next ≡ passed_on passed (step_view table step)
      → GoesAlong next (first + 1) after
  along_then passed next first now after step arrival within is g added seen below on = record {
    done = g.done ++ comes_at machine number passed (step_view table step);
    adds = adds_then table table before now after g.done _ (keeps_same table) g.adds (adds_same table now after _ _ seen (adds_any table now after arrival added below));
    whole = append_assoc g.done _ _ ∙ ap (λ cs. g.done ++ cs) (sym left) ∙ g.whole;
  }
    where
      split : drop first steps ≡ step ∷ drop (first + 1) steps
      split = drop-cons steps first step within ∙ rw (← is, add-one) refl

      left : comes_along machine number passed (steps_of table (drop first steps)) ≡ comes_at machine number passed (step_view table step) ++ comes_along machine number next (steps_of table (drop (first + 1) steps))
      left = ap (λ ss. comes_along machine number passed (steps_of table ss)) split ∙ ap (λ p. comes_at machine number passed (step_view table step) ++ comes_along machine number p (steps_of table (drop (first + 1) steps))) (sym on)

  pub along_all : (passed : Passed) (first : ℕ) (now : List Arrival) → length steps ≤ first → GoesAlong passed first now → Adds table before now (comes_along machine number none_passed (steps_of table steps))
  along_all passed first now end g =
      let none : drop first steps ≡ [] = drop_all first steps end in
      adds_same table before now g.done _ (sym (append-nil g.done) ∙ ap (λ ss. g.done ++ comes_along machine number passed (steps_of table ss)) (sym none) ∙ g.whole) g.adds
