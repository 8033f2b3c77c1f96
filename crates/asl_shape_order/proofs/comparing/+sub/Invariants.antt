use Rattle.std.proofs.Common.{◌≡◌, ◌≤◌, ◌+◌, ◌*◌, drop, max}
use Rattle.std.specs.Slice.Iter.{iter_rest}
use Rattle.asl_model.specs.Shape as shape
use Rattle.asl_model.specs.ShapeOrder as model
use Rattle.asl_model.specs.ShapeOrder.{depth, depth_of_arrays, depth_of_objects, depth_of_elements, depth_of_fields}
use Rattle.asl_shape.specs.Kinds.{arrays_view, objects_view}
use Rattle.asl_shape.specs.View.{view, shapes_view, fields_view}
use Rattle.asl_shape_order.proofs.comparing.+sub.Given as goal

abbrev pub decreases-is_sub : goal.decreases-is_sub
decreases-is_sub l = 5 * depth (view l.outer.now)

abbrev pub decreases-arrays_sub : goal.decreases-arrays_sub
decreases-arrays_sub l = 5 * depth_of_arrays (arrays_view l.outer) + 4

abbrev pub decreases-lists_sub : goal.decreases-lists_sub
decreases-lists_sub l = 5 * depth_of_arrays (arrays_view l.outer) + 3

abbrev pub decreases-part_by_part : goal.decreases-part_by_part
decreases-part_by_part l = 5 * max (depth_of_elements (shapes_view l.bounds.now)) (depth (view l.rest.now)) + 2

abbrev pub decreases-places_sub : goal.decreases-places_sub
decreases-places_sub l = 5 * max (depth_of_elements (shapes_view l.bounds.now)) (depth (view l.rest.now)) + 1

abbrev pub decreases-objects_sub : goal.decreases-objects_sub
decreases-objects_sub l = 5 * depth_of_objects (objects_view l.outer) + 4

abbrev pub decreases-fields_inside : goal.decreases-fields_inside
decreases-fields_inside l = 5 * depth_of_objects (objects_view l.outer) + 3

abbrev pub decreases-field_by_field : goal.decreases-field_by_field
decreases-field_by_field l = 5 * depth_of_fields (fields_view l.fields.now.entries) + 2

abbrev pub decreases-fields_sub : goal.decreases-fields_sub
decreases-fields_sub l = 5 * depth_of_fields (fields_view l.outer.now.entries) + 1

abbrev pub invariant-places_sub-loop-place : goal.invariant-places_sub-loop-place
invariant-places_sub-loop-place l =
    (model.elements_sub (shapes_view l.places) shape.Never (shapes_view l.bounds) (λ s. model.sub s (view l.rest))
    ≡ model.elements_sub (shapes_view (drop l.place-index l.places)) shape.Never (shapes_view (iter_rest l.left)) (λ s. model.sub s (view l.rest)))
    × (depth_of_elements (shapes_view (iter_rest l.left)) ≤ depth_of_elements (shapes_view l.bounds))

abbrev pub invariant-fields_sub-loop-name : goal.invariant-fields_sub-loop-name
invariant-fields_sub-loop-name l =
    (model.fields_sub (fields_view l.inner.entries) l.more (fields_view l.outer.entries)
    ≡ model.fields_sub (fields_view l.inner.entries) l.more (fields_view l.name-iterator))
    × (depth_of_fields (fields_view l.name-iterator) ≤ depth_of_fields (fields_view l.outer.entries))
