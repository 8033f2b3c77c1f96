use Rattle.std.proofs.Common.{◌-◌, length}
use Rattle.asl_faults.proofs.paths.Paths.add_members.Given as goal

abbrev pub decreases-loop-field : goal.decreases-loop-field
decreases-loop-field l = length l.members.0 - l.members.1
