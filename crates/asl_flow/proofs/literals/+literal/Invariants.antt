use Rattle.std.proofs.Common.{◌≡◌, List, ◌++◌, take, String, Global}
use Rattle.asl_numbered.specs.Expansion.{AreNumbersOf, AreFieldsOf, Keeps}
use Rattle.asl_tree.specs.declared.Tree.{Tree}
use Rattle.asl_flow.proofs.Composed.{shapes_by}
use Rattle.asl_flow.proofs.LiteralFields.{of_itself}
use Rattle.asl_flow.proofs.Needed.{needed_by}
use Rattle.asl_flow.proofs.literals.+literal.Given as goal

abbrev pub invariant-element_shapes-loop-element : goal.invariant-element_shapes-loop-element
invariant-element_shapes-loop-element l = record {
  keeps : Keeps l.initial.shapes l.shapes;
  shown : AreNumbersOf l.shapes (shapes_by of_itself (take l.element-index l.elements)) l.numbers.items;
}

abbrev pub invariant-field_shapes-loop-name : goal.invariant-field_shapes-loop-name
invariant-field_shapes-loop-name l = record {
  done : List (String Global × Tree);
  whole : l.fields.entries ≡ done ++ l.name-iterator;
  keeps : Keeps l.initial.shapes l.shapes;
  shown : AreFieldsOf l.shapes (needed_by of_itself done) l.mentions.entries;
}
