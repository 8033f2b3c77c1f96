use Rattle.std.proofs.Common.{◌≡◌, drop, map}
use Rattle.asl_model.specs.ShapeSpelling as model
use Rattle.asl_shape.proofs.levels.is_among.Given as goal

abbrev pub invariant-loop-one : goal.invariant-loop-one
invariant-loop-one l =
    model.is_among l.keyword (map (λ k. k.now) l.known) ≡ model.is_among l.keyword (map (λ k. k.now) (drop l.one-index l.known))
