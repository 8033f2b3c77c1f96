use Rattle.std.proofs.Common.{◌≡◌, ◌↔◌, drop}
use Rattle.std.specs.Slice.Iter.{iter_rest}
use Rattle.asl_tree.specs.View.{elements_view, entries_view}
use Rattle.asl_tree.proofs.comparing.+same.Given as goal

abbrev pub invariant-same_elements-loop-element : goal.invariant-same_elements-loop-element
invariant-same_elements-loop-element l =
    elements_view l.first.items ≡ elements_view l.second.items ↔ elements_view (drop l.element-index l.element-items) ≡ elements_view (iter_rest l.others)

abbrev pub invariant-same_fields-loop-name : goal.invariant-same_fields-loop-name
invariant-same_fields-loop-name l =
    entries_view l.first.entries ≡ entries_view l.second.entries ↔ entries_view l.name-iterator ≡ entries_view l.others
