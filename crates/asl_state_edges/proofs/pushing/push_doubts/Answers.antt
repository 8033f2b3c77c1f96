use Rattle.std.proofs.Common.{[], ◌∷◌, sym, ap}
use Rattle.asl_model.specs.Edges.{Breaks}
use Rattle.asl_state_edges.proofs.PushedSteps.{doubt_pushed, doubts_pushed}
use Rattle.asl_state_edges.proofs.pushing.push_doubts.Goals as goal

pub loop-doubt-preserved : goal.loop-doubt-preserved
loop-doubt-preserved c =
    let l = c.loop-doubt in
    let told = c.broken_by.ensures in
    doubt_pushed _ _ _ _ c.args.doubts.now l.doubt-index c.doubt-item.result _ c.loop-doubt-test.true c.doubt-item.is l.invariant c.in_ok-push.ensures.items told.below (λ table. ap (λ b. Breaks b ∷ []) (sym (told.seen table)))

pub returns : goal.returns
returns c =
    let l = c.loop-doubt in
    doubts_pushed _ _ _ c.args.doubts.now l.doubt-index c.loop-doubt-test.false l.invariant
