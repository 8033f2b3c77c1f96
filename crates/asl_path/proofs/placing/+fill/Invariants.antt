use Rattle.std.proofs.Common.{◌+◌, ◌*◌, length}
use Rattle.asl_path.proofs.placing.+fill.Given as goal

abbrev pub decreases-fill : goal.decreases-fill
decreases-fill l = 2 * length l.steps.now

abbrev pub decreases-fill_element : goal.decreases-fill_element
decreases-fill_element l = 2 * length l.rest.now + 1

abbrev pub decreases-fill_field : goal.decreases-fill_field
decreases-fill_field l = 2 * length l.rest.now + 1
