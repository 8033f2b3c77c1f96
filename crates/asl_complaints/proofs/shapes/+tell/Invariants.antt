use Rattle.std.proofs.Common.{◌≡◌, ◌+◌, ◌*◌, List, ◌++◌, String, map, drop, true}
use Rattle.std.specs.declared.alloc.Global.{Global}
use Rattle.asl_model.specs.ShapeSpelling as model
use Rattle.asl_tree.specs.declared.Tree.{Tree}
use Rattle.asl_shape.specs.Refusal.{fault_named}
use Rattle.asl_shape.specs.Spelled.{elements_view, entries_view, tree_there, view}
use Rattle.asl_shape.proofs.Sizes.{size, elements_size, fields_size, size_there}
use Rattle.asl_complaints.proofs.Telling.{TellsOf}
use Rattle.asl_complaints.proofs.shapes.+tell.Given as goal

abbrev pub decreases-tell_spelling : goal.decreases-tell_spelling
decreases-tell_spelling l = 8 * size (view l.tree.now)

abbrev pub decreases-tell_object : goal.decreases-tell_object
decreases-tell_object l = 8 * fields_size (entries_view l.keywords.now.entries) + 7

abbrev pub decreases-tell_keywords : goal.decreases-tell_keywords
decreases-tell_keywords l = 8 * fields_size (entries_view l.keywords.now.entries) + 6

abbrev pub decreases-tell_for_arrays : goal.decreases-tell_for_arrays
decreases-tell_for_arrays l = 8 * fields_size (entries_view l.keywords.now.entries) + 5

abbrev pub decreases-tell_first : goal.decreases-tell_first
decreases-tell_first l = 8 * size_there (tree_there l.first) + 4

abbrev pub decreases-tell_elements : goal.decreases-tell_elements
decreases-tell_elements l = 8 * elements_size (elements_view l.spellings.now) + 3

abbrev pub decreases-tell_rest : goal.decreases-tell_rest
decreases-tell_rest l = 8 * size_there (tree_there l.rest) + 1

abbrev pub decreases-tell_for_objects : goal.decreases-tell_for_objects
decreases-tell_for_objects l = 8 * fields_size (entries_view l.keywords.now.entries) + 5

abbrev pub decreases-tell_properties : goal.decreases-tell_properties
decreases-tell_properties l = 8 * size_there (tree_there l.properties) + 4

abbrev pub decreases-tell_members : goal.decreases-tell_members
decreases-tell_members l = 8 * fields_size (entries_view l.spellings.now.entries) + 3

abbrev pub invariant-tell_elements-loop-spelling : goal.invariant-tell_elements-loop-spelling
invariant-tell_elements-loop-spelling l =
    TellsOf (map fault_named l.initial.told.items) (map fault_named l.told.items) (model.element_faults true (elements_view l.spellings)) (model.element_faults true (elements_view (drop l.spelling-index l.spellings)))

abbrev pub invariant-tell_members-loop-spelling : goal.invariant-tell_members-loop-spelling
invariant-tell_members-loop-spelling l =
    TellsOf (map fault_named l.initial.told.items) (map fault_named l.told.items) (model.field_faults true (entries_view l.spellings.entries)) (model.field_faults true (entries_view l.spelling-iterator))
    × ((done : List (String Global × Tree)) × (l.spellings.entries ≡ done ++ l.spelling-iterator))
