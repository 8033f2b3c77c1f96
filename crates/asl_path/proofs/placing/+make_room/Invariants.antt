use Rattle.std.proofs.Common.{◌+◌, ◌*◌, length}
use Rattle.asl_path.proofs.placing.+make_room.Given as goal

abbrev pub decreases-make_room : goal.decreases-make_room
decreases-make_room l = 2 * length l.steps.now

abbrev pub decreases-make_room_in_element : goal.decreases-make_room_in_element
decreases-make_room_in_element l = 2 * length l.rest.now + 1

abbrev pub decreases-make_room_in_field : goal.decreases-make_room_in_field
decreases-make_room_in_field l = 2 * length l.rest.now + 1
