use Rattle.asl_numbered.proofs.Parts.{level_refers}
use Rattle.asl_numbered.proofs.joining.put_part.Goals as goal

pub put-requires-clause-refers : goal.put-requires-clause-refers
put-requires-clause-refers c = level_refers c.args.table.now c.args.part c.in-Some-Level.field-0 c.in-Some-Level.node c.in-Some-Level.is c.in-Some-Level.field-0-is c.requires.within
