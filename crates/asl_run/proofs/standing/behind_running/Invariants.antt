use Rattle.std.proofs.Common.{◌-◌, ◌≤◌}
use Rattle.asl_run.proofs.Passing.{AreEnded}
use Rattle.asl_run.proofs.standing.behind_running.Given as goal

abbrev pub invariant-loop-found : goal.invariant-loop-found
invariant-loop-found l = record {
  upper : l.found ≤ l.behind;
  passed : AreEnded l.nodes l.children l.found l.behind;
}

abbrev pub decreases-loop-found : goal.decreases-loop-found
decreases-loop-found l = l.found - l.first
