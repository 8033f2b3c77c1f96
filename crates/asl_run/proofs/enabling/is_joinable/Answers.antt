use Rattle.std.proofs.Common.{arith, sym, ◌∙◌}
use Rattle.asl_run.proofs.Joinable.{one_further, failed_joins, all_decided}
use Rattle.asl_run.proofs.enabling.is_joinable.Goals as goal

pub returns-then-has_failed : goal.returns-then-has_failed
returns-then-has_failed c = failed_joins c.args.children.now c.loop-child.child-index c.child-item.result c.loop-child.all_ended c.loop-child-test.true c.child-item.is (λ names under. sym c.if-has_failed.true ∙ c.has_failed.ensures names under) c.loop-child.invariant

pub loop-child-preserved : goal.loop-child-preserved
loop-child-preserved c = one_further c.args.children.now c.loop-child.child-index c.child-item.result c.loop-child.all_ended c.has_ended-all_ended.result c.loop-child-test.true c.child-item.is (λ names under. sym c.if-has_failed.false ∙ c.has_failed.ensures names under) c.has_ended-all_ended.ensures c.loop-child.invariant

pub returns : goal.returns
returns c = all_decided c.args.children.now c.loop-child.child-index c.loop-child.all_ended (omega arith) c.loop-child.invariant
