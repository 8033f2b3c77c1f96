use Rattle.std.proofs.Common.{length}
use Rattle.asl_shape_paths.proofs.putting.+build.Given as goal

abbrev pub decreases-build : goal.decreases-build
decreases-build l = length l.segments.now
