-- The first rule that is broken along steps whatever is certified elsewhere.
use Rattle.std.proofs.Common.{◌≡◌, ℕ, List, [], ◌∷◌, drop, slice_get, None, refl}
use Rattle.asl_model.specs.Shape.{Shape}
use Rattle.asl_draft_laws.specs.Drafts.{own_breaches}
use Rattle.asl_state_edges.specs.View.{steps_of}
use Rattle.asl_state_edges.specs.declared.found.Step.{Step}
use Rattle.asl_infer.specs.Telling.{IsFirstBroken}

-- a list without a first element
pub first-none : {A : Type 0} (xs : List A) → slice_get xs 0 ≡ None → xs ≡ []
first-none [] h = refl
first-none (x ∷ xs) h = absurd (cc)

-- ---- along several

module _ (table : List Shape) (takes : Shape) where
  -- no rule is broken at those before that place
  pub record ArePassed (steps : List Step) (place : ℕ) : Type 0 where
    pub passed : own_breaches takes (steps_of table steps) ≡ own_breaches takes (steps_of table (drop place steps))

  pub none-passed : (steps : List Step) → ArePassed steps 0
  none-passed steps = record { passed = refl }

  pub whole-steps : (steps : List Step) → IsFirstBroken table takes steps None → own_breaches takes (steps_of table steps) ≡ []
  whole-steps steps none = first-none (own_breaches takes (steps_of table steps)) none.first

-- ---- what flows
