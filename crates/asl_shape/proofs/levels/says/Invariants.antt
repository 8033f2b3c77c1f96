use Rattle.std.proofs.Common.{◌≡◌, drop}
use Rattle.asl_model.specs.ShapeSpelling as model
use Rattle.asl_shape.specs.Spelled as trees
use Rattle.asl_shape.proofs.levels.says.Given as goal

abbrev pub invariant-loop-element : goal.invariant-loop-element
invariant-loop-element l =
    model.is_among l.name (model.texts_among (trees.elements_view l.elements))
    ≡ model.is_among l.name (model.texts_among (trees.elements_view (drop l.element-index l.elements)))
