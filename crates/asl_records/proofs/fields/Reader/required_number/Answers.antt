use Rattle.std.proofs.Common.{true, refl, sym, ap, subst, ◌∙◌}
use Rattle.std.proofs.lemmas.Result.{IfErr-weaker, IfOk-weaker, on_ok_weaker}
use Rattle.asl_model.specs.Records.{MissingField}
use Rattle.asl_tree.specs.View.{view}
use Rattle.asl_numbered.specs.Expansion.{IsNumberOf}
use Rattle.asl_records.specs.Values.{value_there}
use Rattle.asl_records.proofs.FieldParts.{complaints_there, shape_is}
use Rattle.asl_records.proofs.Telling.{told_same}
use Rattle.asl_records.proofs.fields.Reader.required_number.Goals as goal

pub returns-in-Some-clause-right : goal.returns-in-Some-clause-right
returns-in-Some-clause-right c =
    let stands = sym (ap value_there c.in-Some.is) ∙ c.stated.ensures in
    on_ok_weaker c.read_number.result (λ h. record { each = λ reading means. complaints_there reading c.args.self.now.name.now c.args.field.now true (view c.in-Some.tree.now) _ stands ∙ h.each reading means }) c.read_number.ensures.right

pub returns-in-Some-clause-number : goal.returns-in-Some-clause-number
returns-in-Some-clause-number c =
    let stands = sym (ap value_there c.in-Some.is) ∙ c.stated.ensures in
    IfOk-weaker c.read_number.result _ _ (λ n h. record { each = λ reading means. subst (λ s. IsNumberOf c.read_number.new.shapes s n) (sym (shape_is reading.listed (view c.in-Some.tree.now) _ stands)) (h.each reading means) }) c.read_number.ensures.number

pub returns-in-Some-clause-refused : goal.returns-in-Some-clause-refused
returns-in-Some-clause-refused c =
    let stands = sym (ap value_there c.in-Some.is) ∙ c.stated.ensures in
    IfErr-weaker c.read_number.result _ _ (λ f h. record { each = λ reading means. told_same f _ _ (h.each reading means) (sym (complaints_there reading c.args.self.now.name.now c.args.field.now true (view c.in-Some.tree.now) _ stands)) }) c.read_number.ensures.refused

pub returns-in-None-clause-refused : goal.returns-in-None-clause-refused
returns-in-None-clause-refused c = record { each = λ reading means. rw (sym c.stated.ensures, c.in-None.is) (c.refuse.ensures MissingField refl) }
