use Rattle.std.proofs.Common.{◌≡◌, map, drop}
use Rattle.asl_shape.specs.Kinds.{kinds_view}
use Rattle.asl_shape.specs.View.{view, merged, with_kinds}
use Rattle.asl_shape.proofs.kinds.+take_apart.Given as goal

abbrev pub invariant-take_each_apart-loop-part : goal.invariant-take_each_apart-loop-part
invariant-take_each_apart-loop-part l =
    merged (map view l.parts) ≡ with_kinds (kinds_view l.kinds) (merged (map view (drop l.part-index l.parts)))
