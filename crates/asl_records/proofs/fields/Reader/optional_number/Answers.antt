use Rattle.std.proofs.Common.{Some, false, refl, sym, ap, subst, ◌∙◌}
use Rattle.asl_tree.specs.View.{view}
use Rattle.asl_records.specs.Numbering.{IsItemOf}
use Rattle.asl_records.specs.Parts.{tree_shape}
use Rattle.asl_records.specs.Values.{value_there}
use Rattle.asl_records.proofs.FieldParts.{complaints_there, item_is}
use Rattle.asl_records.proofs.Numberings.{item_numbered}
use Rattle.asl_records.proofs.Telling.{told_same}
use Rattle.asl_records.proofs.fields.Reader.optional_number.Goals as goal

pub returns-in-Ok-clause-right : goal.returns-in-Ok-clause-right
returns-in-Ok-clause-right c =
    let stands = sym (ap value_there c.in-Some.is) ∙ c.stated.ensures in
    record { each = λ reading means. complaints_there reading c.args.self.now.name.now c.args.field.now false (view c.in-Some.tree.now) _ stands ∙ c.in-Ok.ensures.right.each reading means }

pub returns-in-Ok-clause-number : goal.returns-in-Ok-clause-number
returns-in-Ok-clause-number c =
    let stands = sym (ap value_there c.in-Some.is) ∙ c.stated.ensures in
    let table = c.read_number.new.shapes in
    record {
      each = λ reading means.
          let t = view c.in-Some.tree.now in
          subst (λ s. IsItemOf table s (Some c.in-Ok.number)) (sym (item_is reading.listed t _ stands)) (item_numbered table (tree_shape reading.listed t) c.in-Ok.number (c.in-Ok.ensures.number.each reading means));
    }

pub returns-in-Err-clause-refused : goal.returns-in-Err-clause-refused
returns-in-Err-clause-refused c =
    let stands = sym (ap value_there c.in-Some.is) ∙ c.stated.ensures in
    record { each = λ reading means. told_same c.in-Err.fault _ _ (c.in-Err.ensures.refused.each reading means) (sym (complaints_there reading c.args.self.now.name.now c.args.field.now false (view c.in-Some.tree.now) _ stands)) }

pub returns-in-None-clause-right : goal.returns-in-None-clause-right
returns-in-None-clause-right c = record { each = λ reading means. rw (sym c.stated.ensures, c.in-None.is) refl }

pub returns-in-None-clause-number : goal.returns-in-None-clause-number
returns-in-None-clause-number c = record { each = λ reading means. rw (sym c.stated.ensures, c.in-None.is) (record { below = tt; same = refl }) }
