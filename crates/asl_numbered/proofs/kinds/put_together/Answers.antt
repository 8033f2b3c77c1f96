use Rattle.std.proofs.Common.{length, arith}
use Rattle.asl_numbered.proofs.Expansions.{several_refers}
use Rattle.asl_numbered.proofs.Taking.{one_together}
use Rattle.asl_numbered.proofs.kinds.put_together.Goals as goal

pub put-requires-in_default-clause-refers : goal.put-requires-in_default-clause-refers
put-requires-in_default-clause-refers c =
    several_refers (length c.args.table.now) c.args.parts c.requires.within

pub returns-in-1-clause-number : goal.returns-in-1-clause-number
returns-in-1-clause-number c =
    one_together c.args.table.now c.args.parts.items c.index.result.now c.are_distinct.ensures.distinct c.requires.within (omega (arith, c.in-1.is, c.len.ensures, c.args.parts.ok.0)) c.index.ensures
