use Rattle.std.proofs.Common.{Some, subst}
use Rattle.asl_numbered.specs.Outside.{sought_tree, IsFound}
use Rattle.asl_numbered.proofs.Stepping.{step_more, steps_within, next_sought}
use Rattle.asl_numbered.proofs.outside.find_steps.Goals as goal

pub loop-left-preserved : goal.loop-left-preserved
loop-left-preserved c =
    let l = c.loop-left in
    let table = c.args.table.now in
    let next = c.in-Some.next in
    let found = c.in-Some-2.found in
    let own = subst (IsFound table next.second (sought_tree table (Some next))) c.in-Some-2.is c.in_ok-found.ensures.found in (
      step_more table c.args.sought next l.left found l.steps.items c.push.new.self.items c.in-Some.is l.invariant.0 own c.in_ok-push.ensures.items,
      steps_within table next.second _ found l.steps.items c.push.new.self.items l.invariant.1 own c.in_ok-push.ensures.items,
      (next_sought table next l.left _ found c.in-Some.is l.invariant.2 own).0,
      c.in_ok-found.ensures.right,
    )
