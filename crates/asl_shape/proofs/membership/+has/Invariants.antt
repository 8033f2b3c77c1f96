use Rattle.std.proofs.Common.{◌≡◌, ◌+◌, ◌*◌, ◌≤◌, length, drop, max, true}
use Rattle.std.specs.Slice.Iter.{iter_rest}
use Rattle.asl_model.specs.Shape as model
use Rattle.asl_model.specs.ShapeOrder.{depth, depth_of_arrays, depth_of_objects, depth_of_elements, depth_of_fields}
use Rattle.asl_shape.specs.Kinds.{arrays_view, objects_view}
use Rattle.asl_shape.specs.View.{view, shapes_view, fields_view}
use Rattle.asl_tree.specs.View as trees
use Rattle.asl_shape.proofs.membership.+has.Given as goal

abbrev pub decreases-is_valid : goal.decreases-is_valid
decreases-is_valid l = 4 * depth (view l.shape.now)

abbrev pub decreases-arrays_have : goal.decreases-arrays_have
decreases-arrays_have l = 4 * depth_of_arrays (arrays_view l.arrays) + 3

abbrev pub decreases-objects_have : goal.decreases-objects_have
decreases-objects_have l = 4 * depth_of_objects (objects_view l.objects) + 2

abbrev pub decreases-places_have : goal.decreases-places_have
decreases-places_have l = 4 * max (depth_of_elements (shapes_view l.first.now)) (depth (view l.rest.now)) + 2

abbrev pub decreases-first_have : goal.decreases-first_have
decreases-first_have l = 4 * depth_of_elements (shapes_view l.shapes.now) + 1

abbrev pub decreases-each_has : goal.decreases-each_has
decreases-each_has l = 4 * depth (view l.shape.now) + 1

abbrev pub decreases-fields_have : goal.decreases-fields_have
decreases-fields_have l = 4 * depth_of_fields (fields_view l.fields.now.entries) + 1

abbrev pub invariant-first_have-loop-shape : goal.invariant-first_have-loop-shape
invariant-first_have-loop-shape l =
    (model.elements_have (shapes_view l.shapes) (λ t. true) (trees.elements_view l.elements)
    ≡ model.elements_have (shapes_view (drop l.shape-index l.shapes)) (λ t. true) (trees.elements_view (iter_rest l.left)))
    × (l.shape-index + length (iter_rest l.left) ≡ length l.elements)

abbrev pub invariant-each_has-loop-element : goal.invariant-each_has-loop-element
invariant-each_has-loop-element l =
    model.each_element (model.has (view l.shape)) (trees.elements_view l.elements)
    ≡ model.each_element (model.has (view l.shape)) (trees.elements_view (drop l.element-index l.elements))

abbrev pub invariant-fields_have-loop-name : goal.invariant-fields_have-loop-name
invariant-fields_have-loop-name l =
    (model.fields_have (fields_view l.fields.entries) (trees.entries_view l.members.entries)
    ≡ model.fields_have (fields_view l.name-iterator) (trees.entries_view l.members.entries))
    × (depth_of_fields (fields_view l.name-iterator) ≤ depth_of_fields (fields_view l.fields.entries))
