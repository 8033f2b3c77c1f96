use Rattle.std.proofs.Common.{rules}
use Rattle.asl_suites.proofs.Named.{others_stay}
use Rattle.asl_suites.proofs.answers.CaseAnswers.next.Goals as goal

pub returns-in-Some-clause-others : goal.returns-in-Some-clause-others
returns-in-Some-clause-others c =
    λ n other. others_stay c.args.state.now c.args.self.now.states (c.get_mut.follows.lender c.next.new.self) _ n ((c.get_mut.follows.holds c.next.new.self).3 (search rules)) other
