use Rattle.std.proofs.Common.{◌≡◌, ◌+◌, ◌*◌, List, ◌++◌, String, map, option_map, take, drop}
use Rattle.std.specs.Prelude.{IsTrue}
use Rattle.std.specs.declared.alloc.Global.{Global}
use Rattle.asl_model.specs.ShapeSpelling as model
use Rattle.asl_tree.specs.declared.Tree.{Tree}
use Rattle.asl_shape.specs.LevelView.{list_view, object_view}
use Rattle.asl_shape.specs.Properness.{are_proper, fields_proper}
use Rattle.asl_shape.specs.Spelled as trees
use Rattle.asl_shape.specs.View.{view, fields_view}
use Rattle.asl_shape.proofs.Sizes.{size, elements_size, fields_size, size_there, list_size, object_size}
use Rattle.asl_shape.proofs.reading.+read.Given as goal

abbrev pub decreases-read_spelling : goal.decreases-read_spelling
decreases-read_spelling l = 4 * size (trees.view l.tree.now)

abbrev pub decreases-read_list : goal.decreases-read_list
decreases-read_list l = 4 * list_size (option_map list_view l.list) + 3

abbrev pub decreases-read_rest : goal.decreases-read_rest
decreases-read_rest l = 4 * size_there (trees.tree_there l.rest) + 1

abbrev pub decreases-read_elements : goal.decreases-read_elements
decreases-read_elements l = 4 * elements_size (trees.elements_view l.elements.now) + 1

abbrev pub decreases-read_object : goal.decreases-read_object
decreases-read_object l = 4 * object_size (option_map object_view l.object) + 3

abbrev pub decreases-read_properties : goal.decreases-read_properties
decreases-read_properties l = 4 * fields_size (trees.fields_there l.properties) + 2

abbrev pub decreases-read_members : goal.decreases-read_members
decreases-read_members l = 4 * fields_size (trees.entries_view l.members.now.entries) + 1

abbrev pub invariant-read_elements-loop-element : goal.invariant-read_elements-loop-element
invariant-read_elements-loop-element l =
    (model.element_faults l.several (trees.elements_view l.elements) ≡ model.element_faults l.several (trees.elements_view (drop l.element-index l.elements)))
    × (map view l.shapes.items ≡ map (λ t. model.shape_of (trees.view t)) (take l.element-index l.elements))
    × IsTrue (are_proper l.shapes.items)

abbrev pub invariant-read_members-loop-name : goal.invariant-read_members-loop-name
invariant-read_members-loop-name l =
    (model.field_faults l.several (trees.entries_view l.members.entries) ≡ model.field_faults l.several (trees.entries_view l.name-iterator))
    × ((done : List (String Global × Tree)) × (l.members.entries ≡ done ++ l.name-iterator) × (fields_view l.fields.entries ≡ model.field_shapes (trees.entries_view done)))
    × IsTrue (fields_proper l.fields.entries)
