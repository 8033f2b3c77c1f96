use Rattle.std.proofs.Common.{◌≤◌, length, arith, rules}
use Rattle.asl_processing.proofs.Counts.{filled_reach}
use Rattle.asl_processing.proofs.troubles.reach.Goals as goal

pub returns-clause-reached : goal.returns-clause-reached
returns-clause-reached c =
    let counts = c.args.counts.now.items in
    let short : length counts ≤ c.args.retrier = grind (arith, c.args.counts.now.ok.0, c.if-retrier-len.false) in
    filled_reach counts c.resize.new.self.items c.args.retrier short (search rules)
