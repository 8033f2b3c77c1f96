use Rattle.std.proofs.Common.{Some, length, map, sym, ap, ◌∙◌, subst}
use Rattle.std.proofs.lemmas.Result.{on_ok_weaker}
use Rattle.asl_ways.specs.Adding.{AreBelow}
use Rattle.asl_ways.specs.Coming.{coming}
use Rattle.asl_ways.proofs.Added.{added_below, added_seen}
use Rattle.asl_ways.proofs.Found.{visits_told}
use Rattle.asl_ways.proofs.leaving.Walker.visit_onward.Goals as goal

pub visit_all-requires : goal.visit_all-requires
visit_all-requires c =
    let table = c.push_leaving.new.shapes in
    let adds = c.in_ok-push_leaving.ensures.adds in
    let below = added_below table _ c.push_leaving.new.arrivals.items _ c.new-arrivals.ensures.items adds in
    record { below = subst (AreBelow (length table)) (sym c.deref.ensures.value) (below) }

pub returns-clause-visits : goal.returns-clause-visits
returns-clause-visits c =
    let table = c.push_leaving.new.shapes in
    let adds = c.in_ok-push_leaving.ensures.adds in
    let seen = ap (map (coming table)) c.deref.ensures.value ∙ added_seen table _ c.push_leaving.new.arrivals.items _ c.new-arrivals.ensures.items adds in
    on_ok_weaker c.visit_all.result (visits_told table c.visit_all.new.shapes c.args.search.now c.visit_all.new.self _ _ (Some c.args.place) c.visit_all.ensures.unchanged seen) c.visit_all.ensures.visits
