use Rattle.std.proofs.Common.{◌<◌, length}
use Rattle.asl_warnings.proofs.choosing.judge.Given as goal

abbrev pub invariant-loop-index : goal.invariant-loop-index
invariant-loop-index l = l.number < length l.shapes
