use Rattle.asl_run.proofs.Planned.{raised_so}
use Rattle.asl_run.proofs.failing.raise.Goals as goal

pub returns : goal.returns
returns c =
    raised_so c.args.here.now c.after.result c.in_ok-plan.plan c.raised.result c.args.fault c.name.result.now c.name.ensures c.in_ok-plan.ensures c.after.ensures.first c.after.ensures.change c.raised.ensures
