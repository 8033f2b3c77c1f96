use Rattle.std.proofs.Common.{◌∷◌, [], Some, get_or, take, map, refl, sym, ◌∙◌, subst}
use Rattle.asl_ways.specs.Coming.{coming}
use Rattle.asl_ways.specs.Seeking.{Visits}
use Rattle.asl_ways.proofs.Found.{visits_of_none, visits_then}
use Rattle.asl_ways.proofs.Places.{mapped_more}
use Rattle.asl_ways.proofs.search.Search.visit_all.Goals as goal

pub loop-arrival-init : goal.loop-arrival-init
loop-arrival-init c = record { unchanged = refl; visits = visits_of_none c.args.shapes.now (Some c.args.before) c.args.self.now }

pub loop-arrival-preserved : goal.loop-arrival-preserved
loop-arrival-preserved c =
    let l = c.loop-arrival in
    let table = c.args.shapes.now in
    let before = Some c.args.before in
    let a = c.args.self.now in
    let b = c.visit.new.self in
    let next = get_or c.args.arrivals.now l.arrival-index _ in
    let one = subst (λ t. Visits t l.self b (coming t next ∷ []) before) l.invariant.unchanged c.in_ok-visit.ensures.visits in
    record {
      unchanged = c.in_ok-visit.ensures.unchanged ∙ l.invariant.unchanged;
      visits = subst (λ all. Visits table a b all before) (sym (mapped_more (coming table) c.args.arrivals.now l.arrival-index _ c.loop-arrival-test.true)) (visits_then table before a l.self b (map (coming table) (take l.arrival-index c.args.arrivals.now)) _ l.invariant.visits one);
    }
