use Rattle.std.proofs.Common.{◌≡◌, map, take, drop}
use Rattle.asl_model.specs.Written.{written_shape}
use Rattle.asl_shape.specs.View.{view}
use Rattle.asl_tree.specs.View as trees
use Rattle.asl_records.specs.Writing.{AreSpelled}
use Rattle.asl_records.proofs.writing.write_shapes.Given as goal

abbrev pub invariant-loop-shape : goal.invariant-loop-shape
invariant-loop-shape l =
    (map trees.view l.elements.items ≡ map (λ s. written_shape (view s)) (take l.shape-index l.shapes.items))
    × (AreSpelled (map view (drop l.shape-index l.shapes.items)) → AreSpelled (map view l.shapes.items))
