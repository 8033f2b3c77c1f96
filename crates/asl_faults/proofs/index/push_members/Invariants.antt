use Rattle.std.proofs.Common.{◌-◌, length}
use Rattle.asl_faults.proofs.index.push_members.Given as goal

abbrev pub decreases-loop-member : goal.decreases-loop-member
decreases-loop-member l = length l.members.0 - l.members.1
