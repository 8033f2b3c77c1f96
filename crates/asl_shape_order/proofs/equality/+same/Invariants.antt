use Rattle.std.proofs.Common.{◌≡◌, ◌↔◌, ◌≤◌, ◌+◌, ◌*◌, drop}
use Rattle.std.specs.Slice.Iter.{iter_rest}
use Rattle.asl_model.specs.ShapeOrder.{depth, depth_of_arrays, depth_of_objects, depth_of_elements, depth_of_fields}
use Rattle.asl_shape.specs.Kinds.{arrays_view, objects_view}
use Rattle.asl_shape.specs.View.{view, shapes_view, fields_view}
use Rattle.asl_shape_order.proofs.equality.+same.Given as goal

abbrev pub decreases-same : goal.decreases-same
decreases-same l = 3 * depth (view l.first.now)

abbrev pub decreases-same_arrays : goal.decreases-same_arrays
decreases-same_arrays l = 3 * depth_of_arrays (arrays_view l.first) + 2

abbrev pub decreases-same_objects : goal.decreases-same_objects
decreases-same_objects l = 3 * depth_of_objects (objects_view l.first) + 2

abbrev pub decreases-same_shapes : goal.decreases-same_shapes
decreases-same_shapes l = 3 * depth_of_elements (shapes_view l.first.now) + 1

abbrev pub decreases-same_fields : goal.decreases-same_fields
decreases-same_fields l = 3 * depth_of_fields (fields_view l.first.now.entries) + 1

abbrev pub invariant-same_shapes-loop-shape : goal.invariant-same_shapes-loop-shape
invariant-same_shapes-loop-shape l =
    shapes_view l.first ≡ shapes_view l.second ↔ shapes_view (drop l.shape-index l.first) ≡ shapes_view (iter_rest l.left)

abbrev pub invariant-same_fields-loop-name : goal.invariant-same_fields-loop-name
invariant-same_fields-loop-name l =
    (fields_view l.first.entries ≡ fields_view l.second.entries ↔ fields_view l.name-iterator ≡ fields_view l.others)
    × (depth_of_fields (fields_view l.name-iterator) ≤ depth_of_fields (fields_view l.first.entries))
