use Rattle.std.proofs.Common.{◌≡◌, ◌+◌, ◌*◌, List, ◌++◌, take, map}
use Rattle.std.specs.Prelude.{IsTrue}
use Rattle.asl_model.specs.ShapeOrder.{depth, depth_of_arrays, depth_of_objects, depth_of_elements, depth_of_fields}
use Rattle.asl_shape.specs.Kinds.{arrays_view, objects_view}
use Rattle.asl_shape.specs.Properness.{are_proper, fields_proper}
use Rattle.asl_shape.specs.View.{view, shapes_view, fields_view}
use Rattle.asl_shape.proofs.Spellings.{Mention}
use Rattle.asl_samples.specs.Opened.{opened, opened_fields}
use Rattle.asl_samples.proofs.opening.+opened.Given as goal

abbrev pub decreases-opened : goal.decreases-opened
decreases-opened l = 3 * depth (view l.shape.now)

abbrev pub decreases-opened_arrays : goal.decreases-opened_arrays
decreases-opened_arrays l = 3 * depth_of_arrays (arrays_view l.arrays) + 2

abbrev pub decreases-opened_objects : goal.decreases-opened_objects
decreases-opened_objects l = 3 * depth_of_objects (objects_view l.objects) + 2

abbrev pub decreases-opened_each : goal.decreases-opened_each
decreases-opened_each l = 3 * depth_of_elements (shapes_view l.shapes.now) + 1

abbrev pub decreases-opened_fields : goal.decreases-opened_fields
decreases-opened_fields l = 3 * depth_of_fields (fields_view l.fields.now.entries) + 1

abbrev pub invariant-opened_each-loop-shape : goal.invariant-opened_each-loop-shape
invariant-opened_each-loop-shape l =
    (map view l.each.items ≡ map opened (map view (take l.shape-index l.shapes))) × IsTrue (are_proper l.each.items)

abbrev pub invariant-opened_fields-loop-name : goal.invariant-opened_fields-loop-name
invariant-opened_fields-loop-name l =
    ((done : List Mention) × (l.fields.entries ≡ done ++ l.name-iterator) × (fields_view l.each.entries ≡ opened_fields (fields_view done)))
    × IsTrue (fields_proper l.each.entries)
