use Rattle.std.proofs.Common.{◌≡◌, ◌↔◌, drop}
use Rattle.std.specs.Slice.Iter.{iter_rest}
use Rattle.asl_tree.specs.View.{elements_view, entries_view}
use Rattle.asl_differences.proofs.Fields.{IsAsFar}
use Rattle.asl_differences.proofs.trees.+first_difference.Given as goal

abbrev pub invariant-in_elements-loop-index : goal.invariant-in_elements-loop-index
invariant-in_elements-loop-index l = record {
  rest : elements_view l.expected.items ≡ elements_view l.found.items ↔ elements_view (drop l.index l.expected.items) ≡ elements_view (iter_rest l.others);
  others : drop l.index l.found.items ≡ iter_rest l.others;
}

abbrev pub invariant-in_fields-loop-name : goal.invariant-in_fields-loop-name
invariant-in_fields-loop-name l = record {
  rest : entries_view l.expected.entries ≡ entries_view l.found.entries ↔ entries_view l.name-iterator ≡ entries_view l.others;
  names : IsAsFar l.expected.entries l.found.entries l.name-iterator l.others;
}
