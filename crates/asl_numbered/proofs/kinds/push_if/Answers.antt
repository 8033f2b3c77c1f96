use Rattle.asl_numbered.proofs.Taking.{listed_if}
use Rattle.asl_numbered.proofs.kinds.push_if.Goals as goal

pub returns-in_ok-push-clause-listed : goal.returns-in_ok-push-clause-listed
returns-in_ok-push-clause-listed c = λ shapes are.
    listed_if c.args.table.now c.put.new.self shapes _ c.args.parts.now.items c.push.new.self.items c.in_ok-put.field-0 c.args.wanted c.if-wanted.true c.in_ok-put.ensures.keeps c.in_ok-put.ensures.number c.in_ok-push.ensures.items are
