-- The execution of a state whose count is raised.
use Rattle.std.proofs.Common.{◌≡◌, ℕ, sym, ◌∙◌, subst, Option, Some, Result, Ok, Err, IfOk}
use Rattle.asl_model.proofs.RunOptions.{some_inj}
use Rattle.asl_processing.specs.Activities.{IsRaised}
use Rattle.asl_processing.specs.declared.activities.Visit.{Visit}

-- where it stands
pub raised_there : {A E : Type 0} (r : Result A E) (retrier : ℕ) (visit after : Visit) (before now : Option Visit) → before ≡ Some visit → now ≡ Some after → IfOk r (λ _. IsRaised retrier visit after)
    → IfOk r (λ _. (v : Visit) → before ≡ Some v → (w : Visit) × (now ≡ Some w) × IsRaised retrier v w)
raised_there (Ok u) retrier visit after before now e f h = λ v g. (after, f, subst (λ x. IsRaised retrier x after) (some_inj (sym e ∙ g)) h)
raised_there (Err err) retrier visit after before now e f h = tt
