use Rattle.std.proofs.Common.{map, refl, rules}
use Rattle.asl_model.specs.Records.{UnknownField}
use Rattle.asl_complaints.proofs.Parts.{Stated, foreign_on}
use Rattle.asl_complaints.proofs.records.Entry.tell_foreign.Goals as goal

pub loop-field-preserved-in-Continue-1 : goal.loop-field-preserved-in-Continue-1
loop-field-preserved-in-Continue-1 c =
    let e : Stated = (c.in-Some.field.now, c.in-Some.field-0-1.now) in
    let l = c.loop-field in
    foreign_on c.args.self.now.name.now (map (λ k. k.now) c.args.known.now) l.field-iterator c.next.new.self e c.deref-then-not-is_among.result.now l.invariant c.in-Some.ensures.steps (search rules) (search rules) (c.in_ok-tell.ensures UnknownField refl)
