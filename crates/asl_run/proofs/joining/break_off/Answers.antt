use Rattle.asl_run.proofs.Joined.{broken_off}
use Rattle.asl_run.proofs.joining.break_off.Goals as goal

pub returns : goal.returns
returns c =
    broken_off c.args.here.now c.after.result c.in_ok-plan.plan c.branch_failed.result c.args.child c.args.error.now c.args.cause.now c.join_error.result.now c.join_error.ensures c.in_ok-plan.ensures c.after.ensures.first c.after.ensures.change c.branch_failed.ensures
