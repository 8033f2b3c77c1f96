use Rattle.std.proofs.Common.{◌∙◌}
use Rattle.asl_problems.proofs.Warned.{warning_added}
use Rattle.asl_problems.proofs.slips.add_each.Goals as goal

pub loop-slip-preserved : goal.loop-slip-preserved
loop-slip-preserved c =
    let l = c.loop-slip in
    warning_added l.problems.items _ c.in_ok-problem.problem c.in_ok-push.ensures.items c.in_ok-problem.ensures ∙ l.invariant
