use Rattle.std.proofs.Common.{◌-◌, length}
use Rattle.asl_faults.proofs.sure.add_sure.Given as goal

abbrev pub decreases-loop-rule : goal.decreases-loop-rule
decreases-loop-rule l = length l.rules.0 - l.rules.1
