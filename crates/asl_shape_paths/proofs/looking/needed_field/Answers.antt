use Rattle.std.proofs.Common.{◌≡◌, Some, None, option_map, ap, ◌∙◌, rules}
use Rattle.asl_shape.specs.View.{view}
use Rattle.asl_shape_paths.proofs.ShapeParts.{object_part}
use Rattle.asl_shape_paths.proofs.looking.needed_field.Goals as goal

pub returns-in_err-get : goal.returns-in_err-get
returns-in_err-get c =
    let objects = c.in_ok-objects_alone in
    let none : c.from_residual-in_err-get.result ≡ None = search rules in
    ap (option_map (λ s. view s.now)) none ∙ object_part (view c.args.shape.now) objects.field-0.fields.now objects.field-0.extra c.args.name.now None objects.ensures.shown c.in_err-get.ensures.value

pub returns : goal.returns
returns c =
    let objects = c.in_ok-objects_alone in
    c.if_needed.ensures ∙ object_part (view c.args.shape.now) objects.field-0.fields.now objects.field-0.extra c.args.name.now (Some c.in_ok-get.field-0.now) objects.ensures.shown c.in_ok-get.ensures.value
