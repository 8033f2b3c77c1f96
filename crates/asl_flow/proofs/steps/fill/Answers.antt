use Rattle.asl_model.specs.ShapeFlow as model
use Rattle.asl_template.specs.View as templates
use Rattle.asl_flow.specs.Sources.{input_of, item_of}
use Rattle.asl_flow.proofs.Filled.{flows_where_filled}
use Rattle.asl_flow.proofs.steps.fill.Goals as goal

pub returns-clause-flows : goal.returns-clause-flows
returns-clause-flows c =
    let table = c.args.shapes.now in
    flows_where_filled c.fill_at.new.shapes c.args.field.now (model.template_shape (templates.view c.args.template.now) (input_of table c.args.sources) (item_of table c.args.sources)) c.fill_at.result c.fill_at.ensures.filled c.fill_at.ensures.within
