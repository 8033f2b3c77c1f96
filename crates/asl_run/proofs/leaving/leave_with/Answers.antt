use Rattle.std.proofs.Common.{◌∙◌, ap, Bor, Err, IfSome, option_map}
use Rattle.asl_states.specs.Machine.{target_name}
use Rattle.asl_states.specs.declared.target.Target.{Target}
use Rattle.asl_run.specs.Acting.{MayFollow}
use Rattle.asl_run.proofs.Planned.{left_raising, left_with}
use Rattle.asl_run.proofs.leaving.leave_with.Goals as goal

pub returns-in-Ok : goal.returns-in-Ok
returns-in-Ok c =
    let here = c.args.here.now in
    rw c.in-Ok.is (left_with here c.leave.result (IfSome c.args.next (λ t. MayFollow here t.now)) (option_map (λ (t : Bor Target). target_name t.now) c.args.next) c.in-Ok.output c.leave.ensures)

pub returns-in-Fault : goal.returns-in-Fault
returns-in-Fault c =
    let here = c.args.here.now in
    left_raising here c.raise.result (IfSome c.args.next (λ t. MayFollow here t.now)) (option_map (λ (t : Bor Target). target_name t.now) c.args.next) c.args.output c.in-Fault.fault (c.in-Err.is ∙ ap Err c.in-Fault.is) c.raise.ensures
