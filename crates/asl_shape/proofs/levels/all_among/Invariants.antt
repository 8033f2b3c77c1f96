use Rattle.std.proofs.Common.{◌≡◌, map}
use Rattle.asl_model.specs.ShapeSpelling as model
use Rattle.asl_shape.specs.Spelled as trees
use Rattle.asl_shape.proofs.levels.all_among.Given as goal

abbrev pub invariant-loop-keyword : goal.invariant-loop-keyword
invariant-loop-keyword l =
    (fault : model.ShapeFault) → model.foreign_faults fault (map (λ k. k.now) l.known) (trees.entries_view l.keywords.entries) ≡ model.foreign_faults fault (map (λ k. k.now) l.known) (trees.entries_view l.keyword-iterator)
