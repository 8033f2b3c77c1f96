use Rattle.std.proofs.Common.{drop, map, option_map}
use Rattle.std.specs.List.{All}
use Rattle.asl_template.specs.View as templates
use Rattle.asl_processing.specs.Activities.{Begins, given}
use Rattle.asl_tree.specs.View.{view, elements_view}
use Rattle.asl_processing.proofs.Inputs.{AreDone}
use Rattle.asl_processing.proofs.items.start_items.Given as goal

abbrev pub invariant-loop-index : goal.invariant-loop-index
invariant-loop-index l = record {
  done : AreDone (option_map templates.view l.selector) (view l.input) (elements_view l.items) (map given l.children.items) l.index (elements_view (drop l.index l.items));
  begin : All (Begins l.start.number) l.children.items;
}
