use Rattle.asl_processing.specs.Working.{work_view}
use Rattle.asl_run.proofs.Planned.{entered_so}
use Rattle.asl_run.proofs.entering.enter.Goals as goal

pub returns : goal.returns
returns c =
    entered_so c.args.here.now c.after.result c.in_ok-plan.plan c.entered.result (work_view c.in_ok-work.work) c.in_ok-work.ensures.exact (c.in_ok-plan.ensures (record { leads = λ stands. c.in_ok-work.ensures.leads _ stands.leads })) c.after.ensures.first c.after.ensures.change c.entered.ensures
