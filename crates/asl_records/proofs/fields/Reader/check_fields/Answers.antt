use Rattle.std.proofs.Common.{map, refl, ap, ◌∙◌, rules}
use Rattle.asl_model.specs.Records.{UnknownField}
use Rattle.asl_records.specs.Parts.{foreign_complaints}
use Rattle.asl_records.proofs.Entries.{Stated, members}
use Rattle.asl_records.proofs.FieldParts.{known_on, foreign_told}
use Rattle.asl_records.proofs.fields.Reader.check_fields.Goals as goal

pub loop-field-init : goal.loop-field-init
loop-field-init c = search rules

pub loop-field-preserved : goal.loop-field-preserved
loop-field-preserved c =
    let e : Stated = (c.in-Some.field.now, c.in-Some.field-0-1.now) in
    known_on c.args.self.now.name.now (map (λ field. field.now) c.args.known.now) c.args.fields.now.entries c.loop-field.field-iterator c.next.new.self e c.loop-field.invariant c.in-Some.ensures.steps (search rules)

pub returns-then-not-is_known-clause-refused : goal.returns-then-not-is_known-clause-refused
returns-then-not-is_known-clause-refused c =
    let e : Stated = (c.in-Some.field.now, c.in-Some.field-0-1.now) in
    foreign_told c.args.self.now.name.now (map (λ field. field.now) c.args.known.now) c.args.fields.now.entries c.loop-field.field-iterator c.next.new.self e c.deref-then-not-is_known.result.now c.refuse.result c.loop-field.invariant c.in-Some.ensures.steps (search rules) (search rules) (c.refuse.ensures UnknownField refl)

pub returns-clause-right : goal.returns-clause-right
returns-clause-right c = c.loop-field.invariant ∙ ap (λ ms. foreign_complaints c.args.self.now.name.now (map (λ field. field.now) c.args.known.now) (members ms)) c.in-None.ensures.steps.0
