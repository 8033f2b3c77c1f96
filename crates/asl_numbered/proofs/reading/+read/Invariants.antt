use Rattle.std.proofs.Common.{◌≡◌, ◌+◌, ◌*◌, List, ◌++◌, String, option_map, take}
use Rattle.std.specs.declared.alloc.Global.{Global}
use Rattle.asl_tree.specs.declared.Tree.{Tree}
use Rattle.asl_shape.specs.LevelView.{level_view, list_view, object_view}
use Rattle.asl_shape.specs.Spelled as trees
use Rattle.asl_shape.proofs.Sizes.{size, elements_size, fields_size, size_there, level_size, list_size, object_size}
use Rattle.asl_numbered.specs.Expansion.{Keeps}
use Rattle.asl_numbered.specs.Reading.{AreRead, AreFieldsRead}
use Rattle.asl_numbered.specs.References.{shapes_given}
use Rattle.asl_numbered.proofs.Appending.{names, shared_names}
use Rattle.asl_numbered.proofs.reading.+read.Given as goal

abbrev pub decreases-read : goal.decreases-read
decreases-read l = 8 * size (trees.view l.tree.now) + 1

abbrev pub decreases-read_spelling : goal.decreases-read_spelling
decreases-read_spelling l = 8 * size (trees.view l.tree.now)

abbrev pub decreases-read_over : goal.decreases-read_over
decreases-read_over l = 8 * level_size (level_view l.level) + 5

abbrev pub decreases-read_list : goal.decreases-read_list
decreases-read_list l = 8 * list_size (option_map list_view l.list) + 4

abbrev pub decreases-read_rest : goal.decreases-read_rest
decreases-read_rest l = 8 * size_there (trees.tree_there l.rest) + 2

abbrev pub decreases-read_elements : goal.decreases-read_elements
decreases-read_elements l = 8 * elements_size (trees.elements_view l.elements.now) + 2

abbrev pub decreases-read_object : goal.decreases-read_object
decreases-read_object l = 8 * object_size (option_map object_view l.object) + 4

abbrev pub decreases-read_properties : goal.decreases-read_properties
decreases-read_properties l = 8 * fields_size (trees.fields_there l.properties) + 3

abbrev pub decreases-read_members : goal.decreases-read_members
decreases-read_members l = 8 * fields_size (trees.entries_view l.members.now.entries) + 2

abbrev pub invariant-read_elements-loop-element : goal.invariant-read_elements-loop-element
invariant-read_elements-loop-element l =
    Keeps l.initial.table l.table
    × AreRead l.several (shapes_given l.initial.table l.given) (trees.elements_view (take l.element-index l.elements)) l.table l.numbers.items

abbrev pub invariant-read_members-loop-name : goal.invariant-read_members-loop-name
invariant-read_members-loop-name l =
    (done : List (String Global × Tree)) × (l.members.entries ≡ done ++ l.name-iterator)
    × Keeps l.initial.table l.table
    × (shared_names l.fields.entries ≡ names done)
    × AreFieldsRead l.several (shapes_given l.initial.table l.given) (trees.entries_view done) l.table l.fields.entries
