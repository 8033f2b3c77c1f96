use Rattle.std.proofs.Common.{◌≡◌, ◌+◌, ◌*◌, List, ◌++◌, take, map}
use Rattle.std.specs.Prelude.{IsTrue}
use Rattle.asl_model.specs.ShapeOrder.{depth, depth_of_arrays, depth_of_objects, depth_of_elements, depth_of_fields}
use Rattle.asl_shape.specs.Kinds.{arrays_view, objects_view}
use Rattle.asl_shape.specs.Properness.{are_proper, fields_proper}
use Rattle.asl_shape.specs.View.{view, shapes_view, fields_view}
use Rattle.asl_shape.proofs.Spellings.{Mention}
use Rattle.asl_shape.proofs.copying.+copy.Given as goal

abbrev pub decreases-copy : goal.decreases-copy
decreases-copy l = 3 * depth (view l.shape.now)

abbrev pub decreases-copy_arrays : goal.decreases-copy_arrays
decreases-copy_arrays l = 3 * depth_of_arrays (arrays_view l.arrays) + 2

abbrev pub decreases-copy_objects : goal.decreases-copy_objects
decreases-copy_objects l = 3 * depth_of_objects (objects_view l.objects) + 2

abbrev pub decreases-copy_shapes : goal.decreases-copy_shapes
decreases-copy_shapes l = 3 * depth_of_elements (shapes_view l.shapes.now) + 1

abbrev pub decreases-copy_fields : goal.decreases-copy_fields
decreases-copy_fields l = 3 * depth_of_fields (fields_view l.fields.now.entries) + 1

abbrev pub invariant-copy_shapes-loop-shape : goal.invariant-copy_shapes-loop-shape
invariant-copy_shapes-loop-shape l =
    (map view l.copies.items ≡ map view (take l.shape-index l.shapes)) × IsTrue (are_proper l.copies.items)

abbrev pub invariant-copy_fields-loop-name : goal.invariant-copy_fields-loop-name
invariant-copy_fields-loop-name l =
    ((done : List Mention) × (l.fields.entries ≡ done ++ l.name-iterator) × (fields_view l.copies.entries ≡ fields_view done))
    × IsTrue (fields_proper l.copies.entries)
