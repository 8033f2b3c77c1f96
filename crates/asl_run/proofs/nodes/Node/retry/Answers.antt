use Rattle.std.proofs.Common.{refl, sym, ◌∙◌, subst}
use Rattle.asl_model.proofs.RunOptions.{some_inj}
use Rattle.asl_processing.specs.Activities.{IsRaised}
use Rattle.asl_processing.specs.declared.activities.Visit.{Visit}
use Rattle.asl_run.proofs.nodes.Node.retry.Goals as goal

pub returns-in-Some-clause-retries : goal.returns-in-Some-clause-retries
returns-in-Some-clause-retries c = λ visit e.
    let raised = c.in_ok-raise.ensures.raised visit e in
    (c.in-Some.visit, refl, subst (λ (v : Visit). IsRaised c.args.retrier visit v) (some_inj (sym raised.1 ∙ sym c.take_visit.ensures.visit ∙ c.in-Some.is)) raised.2)
