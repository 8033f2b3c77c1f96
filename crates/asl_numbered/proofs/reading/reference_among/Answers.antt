use Rattle.std.proofs.Common.{sym, ◌∙◌}
use Rattle.asl_numbered.proofs.Readings.{alone, not_alone}
use Rattle.asl_numbered.proofs.reading.reference_among.Goals as goal

pub returns-then-len-eq1 : goal.returns-then-len-eq1
returns-then-len-eq1 c = alone c.args.members.now.entries c.get.result (sym c.len.ensures.len ∙ c.if-len-eq1.true) c.get.ensures.value

pub returns-else-len-eq1 : goal.returns-else-len-eq1
returns-else-len-eq1 c = not_alone c.args.members.now.entries (λ one. c.if-len-eq1.false (c.len.ensures.len ∙ one))
