use Rattle.std.proofs.Common.{◌≡◌, map, take, drop, length}
use Rattle.asl_numbered.specs.Expansion.{AreBelow}
use Rattle.asl_tree.specs.View as trees
use Rattle.asl_records.specs.WritingNumbered.{referred_at}
use Rattle.asl_records.proofs.writing_numbered.ShapeWriter.refer_all.Given as goal

abbrev pub invariant-loop-number : goal.invariant-loop-number
invariant-loop-number l = record {
  written : map trees.view l.elements.items ≡ map (referred_at l.self) (take l.number-index l.numbers);
  below : AreBelow (length l.self.shapes.now) (drop l.number-index l.numbers);
}
