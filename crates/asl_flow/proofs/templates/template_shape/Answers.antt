use Rattle.std.proofs.Common.{rules}
use Rattle.asl_shape.specs.View.{view}
use Rattle.asl_template.specs.View as templates
use Rattle.asl_flow.specs.Items.{item_view}
use Rattle.asl_flow.proofs.templates.template_shape.Goals as goal

pub expand-requires : goal.expand-requires
expand-requires c =
    let table = c.template_shape_at.new.shapes in
    record { number = c.in_ok-number.ensures.number.within }

pub returns-clause-value : goal.returns-clause-value
returns-clause-value c =
    c.template_shape_means_a_value.ensures.value (templates.view c.args.template.now) (view c.args.input.now) (item_view c.args.item) (view c.in_ok-expand.field-0) (search rules)
