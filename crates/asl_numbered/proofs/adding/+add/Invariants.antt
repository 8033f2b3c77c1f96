use Rattle.std.proofs.Common.{◌≡◌, ◌+◌, ◌*◌, List, ◌++◌, take}
use Rattle.asl_model.specs.ShapeOrder.{depth, depth_of_arrays, depth_of_objects, depth_of_elements, depth_of_fields}
use Rattle.asl_shape.specs.Kinds.{arrays_view, objects_view}
use Rattle.asl_shape.specs.View.{view, shapes_view, fields_view}
use Rattle.asl_shape.proofs.Spellings.{Mention}
use Rattle.asl_numbered.specs.Expansion.{AreNumbersOf, AreFieldsOf, Keeps}
use Rattle.asl_numbered.proofs.adding.+add.Given as goal

abbrev pub invariant-add_all-loop-shape : goal.invariant-add_all-loop-shape
invariant-add_all-loop-shape l =
    Keeps l.initial.table l.table
    × AreNumbersOf l.table (shapes_view (take l.shape-index l.shapes)) l.numbers.items

abbrev pub invariant-add_fields-loop-name : goal.invariant-add_fields-loop-name
invariant-add_fields-loop-name l =
    (done : List Mention) × (l.fields.entries ≡ done ++ l.name-iterator)
    × Keeps l.initial.table l.table
    × AreFieldsOf l.table (fields_view done) l.numbered.entries

abbrev pub decreases-add : goal.decreases-add
decreases-add l = 3 * depth (view l.shape.now)

abbrev pub decreases-add_arrays : goal.decreases-add_arrays
decreases-add_arrays l = 3 * depth_of_arrays (arrays_view l.arrays) + 2

abbrev pub decreases-add_objects : goal.decreases-add_objects
decreases-add_objects l = 3 * depth_of_objects (objects_view l.objects) + 2

abbrev pub decreases-add_all : goal.decreases-add_all
decreases-add_all l = 3 * depth_of_elements (shapes_view l.shapes.now) + 1

abbrev pub decreases-add_fields : goal.decreases-add_fields
decreases-add_fields l = 3 * depth_of_fields (fields_view l.fields.now.entries) + 1
