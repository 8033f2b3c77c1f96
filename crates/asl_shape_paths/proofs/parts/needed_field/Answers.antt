use Rattle.std.proofs.Common.{◌≡◌, Some, None, ap, sym, ◌∙◌, option_map, rules, string_bytes}
use Rattle.asl_model.specs.ShapeFlow.{if_needed}
use Rattle.asl_numbered.specs.Expansion.{shape_at}
use Rattle.asl_shape_paths.proofs.NumberedParts.{mention_got, got_under, field_below}
use Rattle.asl_shape_paths.proofs.parts.needed_field.Goals as goal

pub returns-in_err-get-clause-part : goal.returns-in_err-get-clause-part
returns-in_err-get-clause-part c =
    let fields = c.args.fields.now in
    let none : c.from_residual.result ≡ None = search rules in
    λ table. ap (option_map (shape_at table)) none ∙ sym (ap if_needed (mention_got table (string_bytes c.args.name.now) fields None (got_under fields c.as_str.ensures.value c.in_err-get.ensures.value)))

pub returns-clause-part : goal.returns-clause-part
returns-clause-part c =
    let fields = c.args.fields.now in
    λ table. c.if_needed.ensures.part table ∙ sym (ap if_needed (mention_got table (string_bytes c.args.name.now) fields (Some c.in_ok-get.field-0.now) (got_under fields c.as_str.ensures.value c.in_ok-get.ensures.value)))

pub returns-clause-within : goal.returns-clause-within
returns-clause-within c =
    λ bound below. c.if_needed.ensures.within bound (field_below bound c.as_str.result.now c.args.fields.now (Some c.in_ok-get.field-0.now) c.in_ok-get.ensures.value below)
