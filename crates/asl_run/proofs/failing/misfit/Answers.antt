use Rattle.asl_run.proofs.Planned.{misfitted}
use Rattle.asl_run.proofs.failing.misfit.Goals as goal

pub returns : goal.returns
returns c =
    misfitted c.args.here.now c.after.result c.in_ok-plan.plan c.raised.result c.name.result.now c.name.ensures c.in_ok-plan.ensures c.after.ensures.first c.after.ensures.change c.raised.ensures
