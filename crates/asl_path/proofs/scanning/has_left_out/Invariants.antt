use Rattle.std.proofs.Common.{◌≡◌, length}
use Rattle.asl_model.specs.PathSpelling.{has_left_out}
use Rattle.asl_path.proofs.scanning.has_left_out.Given as goal

abbrev pub invariant-loop-first : goal.invariant-loop-first
invariant-loop-first l = has_left_out l.text ≡ has_left_out l.rest

abbrev pub decreases-loop-first : goal.decreases-loop-first
decreases-loop-first l = length l.rest
