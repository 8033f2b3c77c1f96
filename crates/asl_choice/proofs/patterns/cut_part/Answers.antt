use Rattle.asl_choice.proofs.Elements.{star_off, byte_off}
use Rattle.asl_choice.proofs.patterns.cut_part.Goals as goal

pub returns-then-first-eq42-clause-cases : goal.returns-then-first-eq42-clause-cases
returns-then-first-eq42-clause-cases c = star_off c.args.first c.args.others.now c.if-first-eq92.false c.if-first-eq42.true

pub returns-clause-cases : goal.returns-clause-cases
returns-clause-cases c = byte_off c.args.first c.args.others.now c.if-first-eq92.false c.if-first-eq42.false
