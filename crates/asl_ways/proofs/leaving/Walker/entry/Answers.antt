use Rattle.asl_ways.proofs.Rows.{entry_lent, lent_below}
use Rattle.asl_ways.proofs.leaving.Walker.entry.Goals as goal

pub returns-clause-seen : goal.returns-clause-seen
returns-clause-seen c = λ table. entry_lent table c.args.name.now c.args.self.now.states.now.entries c.get.result c.get.ensures.value

pub returns-clause-below : goal.returns-clause-below
returns-clause-below c = λ bound below. lent_below bound c.args.name.now c.args.self.now.states.now.entries c.get.result c.get.ensures.value below
