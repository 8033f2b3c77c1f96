use Rattle.std.proofs.Common.{map, take}
use Rattle.asl_numbered.specs.Expansion.{Keeps}
use Rattle.asl_records.specs.Numbering.{AreListOf}
use Rattle.asl_shape.specs.View.{view}
use Rattle.asl_records.proofs.numbering.number_branches.Given as goal

abbrev pub invariant-loop-branch : goal.invariant-loop-branch
invariant-loop-branch l = record {
  keeps : Keeps l.initial.shapes l.shapes;
  numbered : AreListOf l.shapes (map view (take l.branch-index l.branches)) l.numbers.items;
}
