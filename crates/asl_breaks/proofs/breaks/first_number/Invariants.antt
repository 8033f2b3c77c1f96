use Rattle.std.proofs.Common.{length}
use Rattle.asl_breaks.proofs.breaks.first_number.Given as goal

abbrev pub decreases-loop-token : goal.decreases-loop-token
decreases-loop-token l = length l.reader
