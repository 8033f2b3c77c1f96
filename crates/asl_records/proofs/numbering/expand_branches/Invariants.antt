use Rattle.std.proofs.Common.{◌≡◌, All, map, take, drop, length}
use Rattle.asl_numbered.specs.Expansion.{shape_at, AreBelow}
use Rattle.asl_shape.specs.View.{view}
use Rattle.asl_records.specs.Proper.{IsProper}
use Rattle.asl_records.proofs.numbering.expand_branches.Given as goal

abbrev pub invariant-loop-number : goal.invariant-loop-number
invariant-loop-number l = record {
  same : map view l.expanded.items ≡ map (shape_at l.shapes) (take l.number-index l.branches);
  below : AreBelow (length l.shapes) (drop l.number-index l.branches);
  proper : All IsProper l.expanded.items;
}
