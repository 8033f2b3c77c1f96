use Rattle.std.proofs.Common.{◌≡◌, ◌&&◌, drop}
use Rattle.asl_model.specs.ShapeSpelling as model
use Rattle.asl_shape.specs.Spelled as trees
use Rattle.asl_shape.proofs.levels.are_types.Given as goal

abbrev pub invariant-loop-element : goal.invariant-loop-element
invariant-loop-element l =
    (model.are_texts (trees.elements_view l.elements) && model.are_types (model.texts_among (trees.elements_view l.elements)))
    ≡ (model.are_texts (trees.elements_view (drop l.element-index l.elements)) && model.are_types (model.texts_among (trees.elements_view (drop l.element-index l.elements))))
