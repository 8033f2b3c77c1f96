use Rattle.std.proofs.Common.{◌≡◌, ◌+◌, ◌*◌, drop, map}
use Rattle.asl_shape.specs.View.{merged, with_kinds}
use Rattle.asl_numbered.specs.Expansion.{shape_at, AreBelow}
use Rattle.asl_numbered.specs.TakenApart.{kinds_over, AreKindsAt}
use Rattle.asl_numbered.proofs.kinds.+take_apart.Given as goal

abbrev pub decreases-take_apart : goal.decreases-take_apart
decreases-take_apart l = 3 * l.number + 2

abbrev pub decreases-take_node_apart : goal.decreases-take_node_apart
decreases-take_node_apart l = 3 * l.number + 1

abbrev pub decreases-take_each_apart : goal.decreases-take_each_apart
decreases-take_each_apart l = 3 * l.bound

abbrev pub invariant-take_each_apart-loop-part : goal.invariant-take_each_apart-loop-part
invariant-take_each_apart-loop-part l =
    (merged (map (shape_at l.table) l.parts) ≡ with_kinds (kinds_over l.table l.kinds) (merged (map (shape_at l.table) (drop l.part-index l.parts))))
    × AreKindsAt l.table l.bound l.kinds × AreBelow l.bound (drop l.part-index l.parts)
