use Rattle.std.proofs.Common.{◌+◌, ◌*◌, length}
use Rattle.asl_shape_paths.proofs.putting.+put.Given as goal

abbrev pub decreases-put_segments : goal.decreases-put_segments
decreases-put_segments l = 4 * length l.segments.now

abbrev pub decreases-put_in_object : goal.decreases-put_in_object
decreases-put_in_object l = 4 * length l.further.now + 3

abbrev pub decreases-put_in_field : goal.decreases-put_in_field
decreases-put_in_field l = 4 * length l.segments.now + 2

abbrev pub decreases-put_in_optional : goal.decreases-put_in_optional
decreases-put_in_optional l = 4 * length l.segments.now + 1

abbrev pub decreases-put_in_list : goal.decreases-put_in_list
decreases-put_in_list l = 4 * length l.further.now + 3
