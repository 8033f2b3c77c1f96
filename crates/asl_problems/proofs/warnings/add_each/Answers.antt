use Rattle.std.proofs.Common.{◌∙◌}
use Rattle.asl_problems.proofs.Warned.{warning_added}
use Rattle.asl_problems.proofs.warnings.add_each.Goals as goal

pub loop-notice-preserved : goal.loop-notice-preserved
loop-notice-preserved c =
    let l = c.loop-notice in
    warning_added l.problems.items _ c.in_ok-problem.problem c.in_ok-push.ensures.items c.in_ok-problem.ensures ∙ l.invariant
