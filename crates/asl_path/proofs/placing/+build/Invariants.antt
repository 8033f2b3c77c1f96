use Rattle.std.proofs.Common.{length}
use Rattle.asl_path.proofs.placing.+build.Given as goal

abbrev pub decreases-build : goal.decreases-build
decreases-build l = length l.steps.now
