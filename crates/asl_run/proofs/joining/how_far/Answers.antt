use Rattle.std.proofs.Common.{◌∙◌, ap, Bor, List, option_map, sym, ℕ}
use Rattle.asl_run.proofs.Joined.{all_ended, one_failed, one_further, some_running}
use Rattle.asl_run.proofs.joining.how_far.Goals as goal

pub returns-in-Some : goal.returns-in-Some
returns-in-Some c =
    one_failed c.args.children.now c.loop-number.number c.index-children-number.result c.loop-number.all_ended c.in-Some.error.now c.in-Some.cause.now c.loop-number-test.true c.index-children-number.is c.in-Some.ensures
    c.loop-number.invariant

pub loop-number-preserved : goal.loop-number-preserved
loop-number-preserved c =
    one_further c.args.children.now c.loop-number.number c.index-children-number.result c.loop-number.all_ended c.has_ended-all_ended.result c.loop-number-test.true c.index-children-number.is
    (λ names under. ap (option_map (λ (f : Bor (List ℕ) × Bor (List ℕ)). (f.0.now, f.1.now))) (sym c.in_default.is) ∙ c.failure_of.ensures names under) c.has_ended-all_ended.ensures c.loop-number.invariant

pub returns-then-all_ended : goal.returns-then-all_ended
returns-then-all_ended c = all_ended c.args.children.now c.loop-number.number c.loop-number.all_ended (sym c.if-all_ended.true) c.loop-number-test.false c.loop-number.invariant

pub returns-else-all_ended : goal.returns-else-all_ended
returns-else-all_ended c = some_running c.args.children.now c.loop-number.number c.loop-number.all_ended (sym c.if-all_ended.false) c.loop-number-test.false c.loop-number.invariant
