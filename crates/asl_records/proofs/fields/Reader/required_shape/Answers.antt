use Rattle.std.proofs.Common.{None, true, refl, sym, ap, ◌∙◌}
use Rattle.std.proofs.lemmas.Result.{IfErr-weaker, IfOk-weaker, on_ok_weaker}
use Rattle.asl_model.specs.Records.{MissingField, declared_reading}
use Rattle.asl_tree.specs.View.{view}
use Rattle.asl_records.specs.Values.{value_there}
use Rattle.asl_records.proofs.FieldParts.{complaints_there, shape_is}
use Rattle.asl_records.proofs.Telling.{told_same}
use Rattle.asl_records.proofs.fields.Reader.required_shape.Goals as goal

pub returns-in-Some-clause-right : goal.returns-in-Some-clause-right
returns-in-Some-clause-right c =
    let stands = sym (ap value_there c.in-Some.is) ∙ c.stated.ensures in
    on_ok_weaker c.read_shape.result (λ h. complaints_there declared_reading c.args.self.now.name.now c.args.field.now true (view c.in-Some.tree.now) _ stands ∙ h) c.read_shape.ensures.right

pub returns-in-Some-clause-shape : goal.returns-in-Some-clause-shape
returns-in-Some-clause-shape c =
    let stands = sym (ap value_there c.in-Some.is) ∙ c.stated.ensures in
    IfOk-weaker c.read_shape.result _ _ (λ s h. h ∙ sym (shape_is None (view c.in-Some.tree.now) _ stands)) c.read_shape.ensures.shape

pub returns-in-Some-clause-refused : goal.returns-in-Some-clause-refused
returns-in-Some-clause-refused c =
    let stands = sym (ap value_there c.in-Some.is) ∙ c.stated.ensures in
    IfErr-weaker c.read_shape.result _ _ (λ f h. told_same f _ _ h (sym (complaints_there declared_reading c.args.self.now.name.now c.args.field.now true (view c.in-Some.tree.now) _ stands))) c.read_shape.ensures.refused

pub returns-in-None-clause-refused : goal.returns-in-None-clause-refused
returns-in-None-clause-refused c = rw (sym c.stated.ensures, c.in-None.is) (c.refuse.ensures MissingField refl)
