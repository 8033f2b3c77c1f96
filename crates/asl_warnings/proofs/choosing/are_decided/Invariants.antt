use Rattle.std.proofs.Common.{◌<◌, ◌≤◌, length}
use Rattle.asl_warnings.proofs.choosing.are_decided.Given as goal

abbrev pub invariant-loop-choice : goal.invariant-loop-choice
invariant-loop-choice l = record {
  grown : length l.initial.shapes ≤ length l.shapes;
  within : l.number < length l.shapes;
}
