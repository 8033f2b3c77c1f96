use Rattle.std.proofs.Common.{◌+◌, ◌*◌, length}
use Rattle.asl_shape_paths.proofs.counterexamples.+leave_out.Given as goal

abbrev pub decreases-leave_out : goal.decreases-leave_out
decreases-leave_out l = 3 * length l.segments.now

abbrev pub decreases-leave_out_behind : goal.decreases-leave_out_behind
decreases-leave_out_behind l = 3 * length l.rest.now + 2

abbrev pub decreases-leave_out_of_field : goal.decreases-leave_out_of_field
decreases-leave_out_of_field l = 3 * length l.rest.now + 1

abbrev pub decreases-leave_out_of_element : goal.decreases-leave_out_of_element
decreases-leave_out_of_element l = 3 * length l.rest.now + 1
