use Rattle.std.proofs.Common.{◌+◌, ◌*◌}
use Rattle.asl_graph.proofs.drawing.Drawer.+scope.Given as goal

abbrev pub decreases-draw_scope : goal.decreases-draw_scope
decreases-draw_scope l = 4 * l.levels + 3

abbrev pub decreases-draw_state : goal.decreases-draw_state
decreases-draw_state l = 4 * l.levels + 2

abbrev pub decreases-draw_branches : goal.decreases-draw_branches
decreases-draw_branches l = 4 * l.levels + 1

abbrev pub decreases-draw_items : goal.decreases-draw_items
decreases-draw_items l = 4 * l.levels + 1

abbrev pub decreases-draw_inside : goal.decreases-draw_inside
decreases-draw_inside l = 4 * l.levels
