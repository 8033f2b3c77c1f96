use Rattle.std.proofs.Common.{refl, sym, ap, subst, ◌∙◌}
use Rattle.std.proofs.lemmas.Result.{IfErr-weaker, IfOk-weaker, on_ok_weaker}
use Rattle.asl_records.specs.Numbering.{AreListOf}
use Rattle.asl_records.specs.Parts.{TellsOneOf, field_complaints, shapes_row, shapes_there}
use Rattle.asl_records.specs.Values.{value_there}
use Rattle.asl_records.proofs.Numberings.{none_listed}
use Rattle.asl_records.proofs.fields.Reader.optional_numbers.Goals as goal

pub returns-in-Some-clause-right : goal.returns-in-Some-clause-right
returns-in-Some-clause-right c =
    let stands = sym (ap value_there c.in-Some.is) ∙ c.stated.ensures in
    on_ok_weaker c.read_list.result (λ h. record { each = λ reading means. ap (field_complaints reading c.args.self.now.name.now (shapes_row c.args.field.now)) (sym stands) ∙ h.each reading means }) c.read_list.ensures.right

pub returns-in-Some-clause-numbers : goal.returns-in-Some-clause-numbers
returns-in-Some-clause-numbers c =
    let stands = sym (ap value_there c.in-Some.is) ∙ c.stated.ensures in
    IfOk-weaker c.read_list.result _ _ (λ ns h. record { each = λ reading means. subst (λ part. AreListOf c.read_list.new.shapes (shapes_there reading.listed part) ns.items) stands (h.each reading means) }) c.read_list.ensures.numbers

pub returns-in-Some-clause-refused : goal.returns-in-Some-clause-refused
returns-in-Some-clause-refused c =
    let stands = sym (ap value_there c.in-Some.is) ∙ c.stated.ensures in
    IfErr-weaker c.read_list.result _ _ (λ f h. record { each = λ reading means. subst (λ part. TellsOneOf (field_complaints reading c.args.self.now.name.now (shapes_row c.args.field.now) part) f) stands (h.each reading means) }) c.read_list.ensures.refused

pub returns-in-None-clause-right : goal.returns-in-None-clause-right
returns-in-None-clause-right c = record { each = λ reading means. rw (sym c.stated.ensures, c.in-None.is) refl }

pub returns-in-None-clause-numbers : goal.returns-in-None-clause-numbers
returns-in-None-clause-numbers c = record { each = λ reading means. rw (sym c.stated.ensures, c.in-None.is, c.new.ensures.items) (none_listed c.args.shapes.now) }
