use Rattle.std.proofs.Common.{◌≡◌, map, take, drop, length}
use Rattle.asl_numbered.specs.Expansion.{shape_at, AreBelow}
use Rattle.asl_tree.specs.View as trees
use Rattle.asl_records.specs.WritingNumbered.{spelled_over, table_of}
use Rattle.asl_records.proofs.writing_numbered.ShapeWriter.write_listed.Given as goal

abbrev pub invariant-loop-number : goal.invariant-loop-number
invariant-loop-number l = record {
  written : map trees.view l.elements.items ≡ map (λ n. spelled_over l.self (shape_at (table_of l.self) n)) (take l.number-index l.self.listing.now.order.items);
  below : AreBelow (length l.self.shapes.now) (drop l.number-index l.self.listing.now.order.items);
}
