use Rattle.std.proofs.Common.{◌≡◌, ◌+◌, ◌*◌, max, List, ◌++◌, map, take, drop}
use Rattle.asl_model.specs.Written.{written_shape, written_fields}
use Rattle.asl_model.specs.ShapeOrder.{depth, depth_of_arrays, depth_of_objects, depth_of_elements, depth_of_fields}
use Rattle.asl_shape.specs.Kinds.{arrays_view, objects_view}
use Rattle.asl_tree.specs.View as trees
use Rattle.asl_shape.specs.Proper.{AllProper}
use Rattle.asl_shape.specs.View.{view, shapes_view, fields_view}
use Rattle.asl_shape.proofs.Spellings.{Mention}
use Rattle.asl_shape.proofs.Orders.{ProperInOrder}
use Rattle.asl_shape.proofs.writing.+write.Given as goal

abbrev pub decreases-write_shape : goal.decreases-write_shape
decreases-write_shape l = 4 * depth (view l.shape.now)

abbrev pub decreases-write_arrays : goal.decreases-write_arrays
decreases-write_arrays l = 4 * depth_of_arrays (arrays_view l.arrays) + 3

abbrev pub decreases-write_objects : goal.decreases-write_objects
decreases-write_objects l = 4 * depth_of_objects (objects_view l.objects) + 3

abbrev pub decreases-write_places : goal.decreases-write_places
decreases-write_places l = 4 * max (depth_of_elements (shapes_view l.first.now)) (depth (view l.rest.now)) + 2

abbrev pub decreases-write_mentions : goal.decreases-write_mentions
decreases-write_mentions l = 4 * depth_of_fields (fields_view l.fields.now.entries) + 2

abbrev pub decreases-write_shapes : goal.decreases-write_shapes
decreases-write_shapes l = 4 * depth_of_elements (shapes_view l.shapes.now) + 1

abbrev pub decreases-write_fields : goal.decreases-write_fields
decreases-write_fields l = 4 * depth_of_fields (fields_view l.fields.now.entries) + 1

abbrev pub invariant-write_shapes-loop-shape : goal.invariant-write_shapes-loop-shape
invariant-write_shapes-loop-shape l =
    (map trees.view l.elements.items ≡ map (λ s. written_shape (view s)) (take l.shape-index l.shapes))
    × (AllProper (shapes_view (drop l.shape-index l.shapes)) → AllProper (shapes_view l.shapes))

abbrev pub invariant-write_fields-loop-name : goal.invariant-write_fields-loop-name
invariant-write_fields-loop-name l =
    ((done : List Mention) × (l.fields.entries ≡ done ++ l.name-iterator) × (trees.entries_view l.properties.entries ≡ written_fields (fields_view done)))
    × (ProperInOrder (fields_view l.name-iterator) → ProperInOrder (fields_view l.fields.entries))
