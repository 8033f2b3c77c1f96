use Rattle.std.specs.Prelude.{◌<◌}
use Rattle.std.proofs.lemmas.Result.{on_ok_weaker}
use Rattle.asl_ways.proofs.Added.{adds_any, adds_same}
use Rattle.asl_ways.proofs.leaving.Walker.push_start.Goals as goal

pub returns-clause-adds : goal.returns-clause-adds
returns-clause-adds c =
    let table = c.start.new.shapes in
    let start = c.in_ok-start.start in
    let below = c.in_ok-start.ensures.below in
    on_ok_weaker c.push_if_any.result (λ whole. adds_same table _ _ _ _ c.in_ok-start.ensures.start (adds_any table c.args.arrivals.now.items c.push_if_any.new.arrivals.items start whole below)) c.push_if_any.ensures
