use Rattle.std.proofs.Common.{None, Some, false, sym, ap, ◌∙◌}
use Rattle.asl_model.specs.Records.{declared_reading}
use Rattle.asl_tree.specs.View.{view}
use Rattle.asl_records.specs.Values.{value_there}
use Rattle.asl_records.proofs.FieldParts.{complaints_there, item_is}
use Rattle.asl_records.proofs.Telling.{told_same}
use Rattle.asl_records.proofs.fields.Reader.optional_shape.Goals as goal

pub returns-in-Ok-clause-right : goal.returns-in-Ok-clause-right
returns-in-Ok-clause-right c =
    let stands = sym (ap value_there c.in-Some.is) ∙ c.stated.ensures in
    complaints_there declared_reading c.args.self.now.name.now c.args.field.now false (view c.in-Some.tree.now) _ stands ∙ c.in-Ok.ensures.right

pub returns-in-Ok-clause-shape : goal.returns-in-Ok-clause-shape
returns-in-Ok-clause-shape c =
    let stands = sym (ap value_there c.in-Some.is) ∙ c.stated.ensures in
    ap Some c.in-Ok.ensures.shape ∙ sym (item_is None (view c.in-Some.tree.now) _ stands)

pub returns-in-Err-clause-refused : goal.returns-in-Err-clause-refused
returns-in-Err-clause-refused c =
    let stands = sym (ap value_there c.in-Some.is) ∙ c.stated.ensures in
    told_same c.in-Err.fault _ _ c.in-Err.ensures.refused (sym (complaints_there declared_reading c.args.self.now.name.now c.args.field.now false (view c.in-Some.tree.now) _ stands))
