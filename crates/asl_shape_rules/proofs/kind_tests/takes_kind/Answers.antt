use Rattle.std.proofs.Common.{ap, sym, ◌∙◌}
use Rattle.asl_choice.specs.View.{kind_view}
use Rattle.asl_model.specs.ShapeFlow.{of_kind}
use Rattle.asl_shape_rules.proofs.kind_tests.takes_kind.Goals as goal

pub returns-in-Some : goal.returns-in-Some
returns-in-Some c =
    ap (of_kind (kind_view c.args.kind)) (sym c.in-Some.ensures.shown) ∙ c.is_among.ensures c.args.shapes.now
