use Rattle.std.proofs.Common.{◌<◌, length}
use Rattle.asl_warnings.proofs.behind.mark_doubtful.Given as goal

abbrev pub invariant-loop-choice : goal.invariant-loop-choice
invariant-loop-choice l = l.number < length l.shapes
