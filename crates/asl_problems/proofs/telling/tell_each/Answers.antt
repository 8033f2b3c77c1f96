use Rattle.std.proofs.Common.{map, rules}
use Rattle.asl_problems.specs.Told.{told_by, told_of}
use Rattle.asl_problems.proofs.Lists.{none_left, one_more}
use Rattle.asl_problems.proofs.telling.tell_each.Goals as goal

pub loop-problem-preserved : goal.loop-problem-preserved
loop-problem-preserved c =
    let l = c.loop-problem in
    one_more told_by told_of (map told_by c.args.problems.items) l.diagnostics.items _ l.problem-iterator.rest.items c.next.new.self.rest.items c.in-Some.problem c.in_ok-told.told
    l.invariant c.in-Some.ensures.steps.0 c.in_ok-push.ensures.items c.in_ok-told.ensures

pub returns : goal.returns
returns c =
    let l = c.loop-problem in
    none_left told_by told_of (map told_by c.args.problems.items) l.diagnostics.items l.problem-iterator.rest.items l.invariant (search rules)
