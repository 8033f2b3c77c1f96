use Rattle.std.proofs.Common.{◌≡◌, ◌++◌, drop}
use Rattle.asl_model.specs.ShapeSpelling as model
use Rattle.asl_shape.specs.LevelView.{texts}
use Rattle.asl_shape.specs.Spelled as trees
use Rattle.asl_shape.proofs.Naming.{has}
use Rattle.asl_shape.proofs.Requiring.{are_new}
use Rattle.asl_shape.proofs.levels.distinct_names.Given as goal

abbrev pub invariant-loop-element : goal.invariant-loop-element
invariant-loop-element l =
    (model.are_texts (trees.elements_view l.elements) ≡ model.are_texts (trees.elements_view (drop l.element-index l.elements)))
    × (model.are_distinct (model.texts_among (trees.elements_view l.elements)) ≡ are_new (model.texts_among (trees.elements_view (drop l.element-index l.elements))) (has l.seen.keys))
    × (model.texts_among (trees.elements_view l.elements) ≡ texts l.names.items ++ model.texts_among (trees.elements_view (drop l.element-index l.elements)))
