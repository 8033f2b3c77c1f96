use Rattle.std.proofs.Common.{ap, ◌∙◌}
use Rattle.asl_choice.specs.View.{kind_view}
use Rattle.asl_model.specs.ShapeFlow.{not_of_kind}
use Rattle.asl_shape_rules.proofs.TestedKinds.{put_shown}
use Rattle.asl_shape_rules.proofs.kind_tests.drop_kind.Goals as goal

pub returns-in-Some-clause-shown : goal.returns-in-Some-clause-shown
returns-in-Some-clause-shown c =
    let table = c.args.shapes.now in
    let same = c.without-left.ensures table
    ∙ ap (not_of_kind (kind_view c.args.kind)) (c.numbers_of.ensures table c.in-Some.ensures.within ∙ c.in-Some.ensures.shown) in
    put_shown c.add_kinds.new.self _ _ c.add_kinds.result same c.add_kinds.ensures.number
