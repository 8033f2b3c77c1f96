use Rattle.std.proofs.Common.{None, option_map, option_to_list, sym, ap, ◌∙◌, subst}
use Rattle.std.proofs.lemmas.Result.{on_ok_weaker}
use Rattle.asl_ways.specs.Coming.{coming}
use Rattle.asl_ways.specs.Seeking.{Visits}
use Rattle.asl_ways.proofs.Found.{visits_of_none, visits_told}
use Rattle.asl_ways.proofs.leaving.Walker.visit_start.Goals as goal

pub returns-in-Some-clause-visits : goal.returns-in-Some-clause-visits
returns-in-Some-clause-visits c =
    let table = c.start.new.shapes in
    let comes = ap (λ o. option_to_list (option_map (coming table) o)) (sym c.in-Some.is) ∙ c.in_ok-start.ensures.start in
    on_ok_weaker c.visit.result (visits_told table c.visit.new.shapes c.args.search.now c.visit.new.self _ _ None c.visit.ensures.unchanged comes) c.visit.ensures.visits

pub returns-in-None-clause-visits : goal.returns-in-None-clause-visits
returns-in-None-clause-visits c =
    let table = c.start.new.shapes in
    let comes = ap (λ o. option_to_list (option_map (coming table) o)) (sym c.in-None.is) ∙ c.in_ok-start.ensures.start in
    subst (λ all. Visits table c.args.search.now c.args.search.now all None) comes (visits_of_none table None c.args.search.now)
