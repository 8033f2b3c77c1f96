use Rattle.std.proofs.Common.{◌+◌, ◌*◌, length}
use Rattle.asl_shape_rules.proofs.narrowing.+narrow.Given as goal

abbrev pub decreases-narrow_to_present : goal.decreases-narrow_to_present
decreases-narrow_to_present l = 3 * length l.segments.now

abbrev pub decreases-narrow_under : goal.decreases-narrow_under
decreases-narrow_under l = 3 * length l.rest.now + 2

abbrev pub decreases-narrow_field : goal.decreases-narrow_field
decreases-narrow_field l = 3 * length l.rest.now + 1

abbrev pub decreases-narrow_place : goal.decreases-narrow_place
decreases-narrow_place l = 3 * length l.rest.now + 1
