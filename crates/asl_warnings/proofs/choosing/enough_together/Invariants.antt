use Rattle.std.proofs.Common.{◌≤◌, ◌-◌, length}
use Rattle.asl_warnings.proofs.choosing.enough_together.Given as goal

abbrev pub invariant-loop-enough : goal.invariant-loop-enough
invariant-loop-enough l = record {
  order : l.too_few ≤ l.enough;
  within : l.enough ≤ length l.choices;
}

abbrev pub decreases-loop-enough : goal.decreases-loop-enough
decreases-loop-enough l = l.enough - l.too_few
