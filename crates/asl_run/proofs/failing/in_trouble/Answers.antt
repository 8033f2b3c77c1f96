use Rattle.std.proofs.Common.{◌≡◌, List, ℕ, Ok, ap, subst}
use Rattle.asl_model.specs.Run as model
use Rattle.asl_processing.specs.Troubles.{CanRise, TroubleLeads, trouble_view}
use Rattle.asl_processing.specs.declared.troubles.Trouble.TheVariants.{Catches, Retries}
use Rattle.asl_run.proofs.Planned.{caught_so, troubled_so}
use Rattle.asl_run.proofs.failing.in_trouble.Goals as goal

pub retry-requires : goal.retry-requires
retry-requires c =
    let i = c.in-Retries.retrier in
    let is : c.trouble_of.result ≡ Ok (Retries i) = cc in
    let rises : CanRise c.deref.result.now i = c.trouble_of.ensures.rises i is in
    subst (λ (counts : List ℕ). CanRise counts i) c.deref.ensures.value rises

pub returns-in-Retries : goal.returns-in-Retries
returns-in-Retries c =
    troubled_so c.args.here.now c.retry.result c.args.error.now c.args.cause.now c.deref.result.now c.in_ok-retrier.field-0 (model.Retries c.in-Retries.retrier) (ap trouble_view c.in-Retries.is) c.deref.ensures.value c.in_ok-retrier.ensures.exact c.retry.ensures

pub returns-in-Catches : goal.returns-in-Catches
returns-in-Catches c =
    let caught = c.in-Catches in
    let met = c.in_ok-retrier.field-0 in
    caught_so c.args.here.now c.hand_on.result c.args.error.now c.args.cause.now c.deref.result.now met (trouble_view (Catches caught.catcher caught.next caught.input)) caught.next.now (ap trouble_view caught.is) c.deref.ensures.value c.in_ok-retrier.ensures.exact
    (λ stands. subst (TroubleLeads _) caught.is (c.in_ok-retrier.ensures.leads _ stands.leads.settings)) c.hand_on.ensures

pub returns-in-Misfits : goal.returns-in-Misfits
returns-in-Misfits c =
    troubled_so c.args.here.now c.misfit.result c.args.error.now c.args.cause.now c.deref.result.now c.in_ok-retrier.field-0 model.Misfits (ap trouble_view c.in-Misfits.is) c.deref.ensures.value c.in_ok-retrier.ensures.exact c.misfit.ensures
