use Rattle.std.proofs.Common.{◌≡◌, ◌≤◌, drop, map}
use Rattle.asl_shape.specs.Properness.{seen, ascend_from}
use Rattle.asl_shape.proofs.properness.ascend.Given as goal

abbrev pub invariant-loop-shape : goal.invariant-loop-shape
invariant-loop-shape l =
    (ascend_from 0 (map (λ s. s.place) (map seen l.shapes)) ≡ ascend_from l.least (map (λ s. s.place) (map seen (drop l.shape-index l.shapes))))
    × (l.least ≤ 6)
