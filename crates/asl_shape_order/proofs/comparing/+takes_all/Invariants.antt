use Rattle.std.proofs.Common.{◌≡◌, ◌≤◌, ◌+◌, ◌*◌}
use Rattle.asl_model.specs.ShapeOrder as model
use Rattle.asl_model.specs.ShapeOrder.{depth, depth_of_arrays, depth_of_objects, depth_of_fields}
use Rattle.asl_shape.specs.Kinds.{arrays_view, kinds_view, objects_view}
use Rattle.asl_shape.specs.View.{view, fields_view}
use Rattle.asl_shape_order.proofs.comparing.+takes_all.Given as goal

abbrev pub decreases-takes_all : goal.decreases-takes_all
decreases-takes_all l = 4 * depth (view l.shape.now) + 1

abbrev pub decreases-kinds_take_all : goal.decreases-kinds_take_all
decreases-kinds_take_all l = 4 * depth (kinds_view l.kinds)

abbrev pub decreases-lists_take_all : goal.decreases-lists_take_all
decreases-lists_take_all l = 4 * depth_of_arrays (arrays_view l.arrays) + 3

abbrev pub decreases-objects_take_all : goal.decreases-objects_take_all
decreases-objects_take_all l = 4 * depth_of_objects (objects_view l.objects) + 3

abbrev pub decreases-asks_nothing : goal.decreases-asks_nothing
decreases-asks_nothing l = 4 * depth_of_fields (fields_view l.fields.now.entries) + 2

abbrev pub invariant-asks_nothing-loop-field : goal.invariant-asks_nothing-loop-field
invariant-asks_nothing-loop-field l =
    (model.asks_nothing (fields_view l.fields.entries) ≡ model.asks_nothing (fields_view l.field-iterator))
    × (depth_of_fields (fields_view l.field-iterator) ≤ depth_of_fields (fields_view l.fields.entries))
