use Rattle.asl_model.specs.Run as model
use Rattle.asl_run.specs.Acting.{by_settings}
use Rattle.asl_run.proofs.Planned.{preceded_so}
use Rattle.asl_run.proofs.acting.fail.Goals as goal

pub returns : goal.returns
returns c =
    let here = c.args.here.now in
    preceded_so here c.after.result c.in_ok-plan.plan c.task_failed.result (model.TaskFailed here.name.now c.args.error.now c.args.cause.now) (by_settings model.troubled here c.args.error.now c.args.cause.now) c.after.ensures.first c.after.ensures.change c.task_failed.ensures c.in_ok-plan.ensures
