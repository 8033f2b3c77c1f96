use Rattle.std.proofs.Common.{◌≡◌}
use Rattle.asl_model.specs.ShapeOrder as model
use Rattle.asl_shape.specs.View.{fields_view}
use Rattle.asl_shape_order.proofs.comparing.others_never_there.Given as goal

abbrev pub invariant-loop-name : goal.invariant-loop-name
invariant-loop-name l =
    model.others_never_there (fields_view l.outer.entries) (fields_view l.inner.entries)
    ≡ model.others_never_there (fields_view l.outer.entries) (fields_view l.name-iterator)
