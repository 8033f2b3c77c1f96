use Rattle.std.proofs.Common.{◌≡◌, List, ◌++◌, take, map}
use Rattle.asl_tree.specs.View.{view, entries_view}
use Rattle.asl_tree.proofs.Views.{Entry}
use Rattle.asl_tree.proofs.copying.+copy.Given as goal

abbrev pub invariant-copy_elements-loop-element : goal.invariant-copy_elements-loop-element
invariant-copy_elements-loop-element l = map view l.copies.items ≡ map view (take l.element-index l.element-items)

abbrev pub invariant-copy_fields-loop-name : goal.invariant-copy_fields-loop-name
invariant-copy_fields-loop-name l =
    (done : List Entry) × (l.fields.entries ≡ done ++ l.name-iterator) × (entries_view l.copies.entries ≡ entries_view done)
