use Rattle.std.proofs.Common.{◌≡◌, List, ◌++◌, map, take, drop}
use Rattle.asl_intrinsic.specs.View.{at_hand}
use Rattle.asl_model.specs.Template.{filled, fields_filled}
use Rattle.asl_template.proofs.Firsts.{ElementsPassed, FieldsPassed}
use Rattle.asl_template.proofs.Values.{Entry}
use Rattle.asl_template.specs.View.{view, elements_view, entries_view}
use Rattle.asl_tree.specs.View as trees
use Rattle.asl_template.proofs.evaluating.+eval.Given as goal

abbrev pub invariant-element_values-loop-element : goal.invariant-element_values-loop-element
invariant-element_values-loop-element l = record {
  values : map trees.view l.values.items ≡ map (λ t. filled (view t) (trees.view l.input) (at_hand l.item)) (take l.element-index l.elements);
  passed : ElementsPassed (trees.view l.input) (at_hand l.item) (elements_view l.elements) l.element-index (elements_view (drop l.element-index l.elements));
}

abbrev pub invariant-field_values-loop-name : goal.invariant-field_values-loop-name
invariant-field_values-loop-name l = record {
  done : List Entry;
  whole : l.fields.entries ≡ done ++ l.name-iterator;
  values : trees.entries_view l.values.entries ≡ fields_filled (entries_view done) (trees.view l.input) (at_hand l.item);
  passed : FieldsPassed (trees.view l.input) (at_hand l.item) (entries_view l.fields.entries) (entries_view l.name-iterator);
}
