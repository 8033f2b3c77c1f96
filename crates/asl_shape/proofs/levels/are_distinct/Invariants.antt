use Rattle.std.proofs.Common.{◌≡◌, drop}
use Rattle.asl_model.specs.ShapeSpelling as model
use Rattle.asl_shape.specs.Spelled as trees
use Rattle.asl_shape.proofs.levels.are_distinct.Given as goal

abbrev pub invariant-loop-index : goal.invariant-loop-index
invariant-loop-index l =
    model.are_distinct (model.texts_among (trees.elements_view l.elements))
    ≡ model.are_distinct (model.texts_among (trees.elements_view (drop l.index l.elements)))
