use Rattle.std.proofs.Common.{Some, length, sym, ◌∙◌, subst, arith}
use Rattle.asl_numbered.specs.Expansion.{shape_at}
use Rattle.asl_numbered.specs.Laws.{keeps_trans}
use Rattle.asl_records.specs.Laws.{entries_within}
use Rattle.asl_ways.specs.Coming.{leaves}
use Rattle.asl_ways.specs.Given.{given_in}
use Rattle.asl_ways.specs.Seeking.{Visits}
use Rattle.asl_ways.specs.Visits.{AreVisitsBelow}
use Rattle.asl_ways.proofs.Certified.{given_kept}
use Rattle.asl_ways.proofs.Sought.{none_at, sought_ends, sought_first, sought_step, visit_within}
use Rattle.asl_ways.proofs.leaving.Walker.visits.Goals as goal

pub loop-place-init : goal.loop-place-init
loop-place-init c =
    let table = c.visit_start.new.shapes in
    let given = given_in c.args.shapes.now c.args.self.now in
    record {
      most = c.in_ok-visit_start.ensures.visits.most ∙ c.new-search.ensures.most;
      keeps = c.visit_start.ensures.keeps;
      sought = sought_first table given _ c.visit_start.new.search c.new-search.ensures.none c.in_ok-visit_start.ensures.visits;
    }

pub visit_onward-requires : goal.visit_onward-requires
visit_onward-requires c =
    let l = c.loop-place in
    record {
      states = entries_within c.args.shapes.now l.shapes l.invariant.keeps _ c.requires.states;
      below = (visit_within l.shapes _ _ _ _ l.place c.in-Some.visit (sym c.nth.ensures ∙ c.in-Some.is) l.invariant.sought);
    }

pub loop-place-preserved : goal.loop-place-preserved
loop-place-preserved c =
    let l = c.loop-place in
    let a = l.shapes in
    let b = c.visit_onward.new.shapes in
    let self = c.args.self.now in
    let given = given_in c.args.shapes.now self in
    let own = c.in-Some.visit in
    let next = c.visit_onward.new.search in
    let same = given_kept c.args.shapes.now l.shapes self l.invariant.keeps c.requires.states in
    let adds = subst (λ g. Visits b l.search next (leaves g own.arrival.state (shape_at a own.arrival.shape)) (Some l.place)) same c.in_ok-visit_onward.ensures.visits in
    record {
      most = c.in_ok-visit_onward.ensures.visits.most ∙ l.invariant.most;
      keeps = keeps_trans _ _ _ l.invariant.keeps c.visit_onward.ensures.keeps;
      sought = sought_step a b given l.search next l.place own c.visit_onward.ensures.keeps (sym c.nth.ensures ∙ c.in-Some.is) l.invariant.sought adds;
    }

pub returns-in_default-clause-all : goal.returns-in_default-clause-all
returns-in_default-clause-all c =
    let l = c.loop-place in
    (sought_ends _ _ l.search c.into_visits.result.items _ l.place l.invariant.most c.into_visits.ensures (none_at l.search.visits.items l.place (sym c.nth.ensures ∙ c.in_default.is)) l.invariant.sought).all

pub returns-in_default-clause-below : goal.returns-in_default-clause-below
returns-in_default-clause-below c =
    let l = c.loop-place in
    (sought_ends _ _ l.search c.into_visits.result.items _ l.place l.invariant.most c.into_visits.ensures (none_at l.search.visits.items l.place (sym c.nth.ensures ∙ c.in_default.is)) l.invariant.sought).below

pub returns-clause-all : goal.returns-clause-all
returns-clause-all c =
    let l = c.loop-place in
    let few = l.search.few in
    let most = l.invariant.most in
    let end = c.loop-place-test.false in
    (sought_ends _ _ l.search c.into_visits-2.result.items _ l.place l.invariant.most c.into_visits-2.ensures (omega (arith, few, most, end)) l.invariant.sought).all

pub returns-clause-below : goal.returns-clause-below
returns-clause-below c =
    let l = c.loop-place in
    subst (λ vs. AreVisitsBelow (length l.shapes) vs) (sym c.into_visits-2.ensures) (l.invariant.sought.below)
