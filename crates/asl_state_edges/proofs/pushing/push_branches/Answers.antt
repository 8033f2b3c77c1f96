use Rattle.asl_state_edges.proofs.PushedSteps.{all_left, branch_pushed, branches_pushed}
use Rattle.asl_state_edges.proofs.pushing.push_branches.Goals as goal

pub loop-start-init : goal.loop-start-init
loop-start-init c = all_left _ _ _

pub loop-start-preserved : goal.loop-start-preserved
loop-start-preserved c =
    let l = c.loop-start in
    branch_pushed _ _ _ c.args.input _ c.args.branches.now l.start-index c.start-item.result c.loop-start-test.true c.start-item.is l.invariant c.in_ok-push_child.ensures

pub returns : goal.returns
returns c =
    let l = c.loop-start in
    branches_pushed _ _ c.args.input _ c.args.branches.now l.start-index c.loop-start-test.false l.invariant
