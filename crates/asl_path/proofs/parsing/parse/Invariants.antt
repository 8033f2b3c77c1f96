use Rattle.std.proofs.Common.{length}
use Rattle.asl_path.specs.View.{segments_view}
use Rattle.asl_path.proofs.Reading.{SoFar}
use Rattle.asl_path.proofs.parsing.parse.Given as goal

abbrev pub invariant-loop-rest : goal.invariant-loop-rest
invariant-loop-rest l = SoFar l.text (segments_view l.segments.items) l.rest

abbrev pub decreases-loop-rest : goal.decreases-loop-rest
decreases-loop-rest l = length l.rest
