use Rattle.std.proofs.Common.{◌≡◌, ◌+◌, ◌*◌, ◌≤◌, drop}
use Rattle.asl_model.specs.Shape as model
use Rattle.asl_model.specs.ShapeOrder.{depth, depth_of_arrays, depth_of_objects, depth_of_elements, depth_of_fields}
use Rattle.asl_shape.specs.Kinds.{arrays_view, objects_view}
use Rattle.asl_shape.specs.Known.{AllOrderly, NeededOrderly}
use Rattle.asl_shape.specs.View.{view, shapes_view, fields_view}
use Rattle.asl_shape.proofs.inhabiting.+inhabited.Given as goal

abbrev pub decreases-is_inhabited : goal.decreases-is_inhabited
decreases-is_inhabited l = 3 * depth (view l.shape.now)

abbrev pub decreases-some_array : goal.decreases-some_array
decreases-some_array l = 3 * depth_of_arrays (arrays_view l.arrays) + 2

abbrev pub decreases-some_object : goal.decreases-some_object
decreases-some_object l = 3 * depth_of_objects (objects_view l.objects) + 2

abbrev pub decreases-all_inhabited : goal.decreases-all_inhabited
decreases-all_inhabited l = 3 * depth_of_elements (shapes_view l.shapes.now) + 1

abbrev pub decreases-needed_inhabited : goal.decreases-needed_inhabited
decreases-needed_inhabited l = 3 * depth_of_fields (fields_view l.fields.now.entries) + 1

abbrev pub invariant-all_inhabited-loop-shape : goal.invariant-all_inhabited-loop-shape
invariant-all_inhabited-loop-shape l =
    (model.all_inhabited (shapes_view l.shapes) ≡ model.all_inhabited (shapes_view (drop l.shape-index l.shapes)))
    × (AllOrderly (shapes_view (drop l.shape-index l.shapes)) → AllOrderly (shapes_view l.shapes))

abbrev pub invariant-needed_inhabited-loop-field : goal.invariant-needed_inhabited-loop-field
invariant-needed_inhabited-loop-field l =
    (model.needed_inhabited (fields_view l.fields.entries) ≡ model.needed_inhabited (fields_view l.field-iterator))
    × (NeededOrderly (fields_view l.field-iterator) → NeededOrderly (fields_view l.fields.entries))
    × (depth_of_fields (fields_view l.field-iterator) ≤ depth_of_fields (fields_view l.fields.entries))
