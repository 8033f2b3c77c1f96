use Rattle.asl_model.specs.Run as model
use Rattle.asl_tree.specs.View.{view}
use Rattle.std.proofs.Common.{None}
use Rattle.asl_run.proofs.Planned.{with_premise}
use Rattle.asl_run.proofs.leaving.leave.Goals as goal

pub returns-in-Some : goal.returns-in-Some
returns-in-Some c = rw c.in-Some.is c.leave_for.ensures

pub returns-in-None : goal.returns-in-None
returns-in-None c =
    rw c.in-None.is (with_premise c.args.here.now c.leave_scope.result (Unit {0}) (model.leaves_for c.args.here.now.name.now None (view c.args.output.value)) c.leave_scope.ensures)
