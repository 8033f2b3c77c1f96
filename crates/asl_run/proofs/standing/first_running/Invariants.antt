use Rattle.std.proofs.Common.{◌-◌, ◌≤◌}
use Rattle.asl_run.proofs.Passing.{AreEnded}
use Rattle.asl_run.proofs.standing.first_running.Given as goal

abbrev pub invariant-loop-found : goal.invariant-loop-found
invariant-loop-found l = record {
  lower : l.first ≤ l.found;
  passed : AreEnded l.nodes l.children l.first l.found;
}

abbrev pub decreases-loop-found : goal.decreases-loop-found
decreases-loop-found l = l.behind - l.found
