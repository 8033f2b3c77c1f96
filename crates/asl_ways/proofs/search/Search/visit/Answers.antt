use Rattle.std.proofs.Common.{◌∷◌, []}
use Rattle.std.proofs.lemmas.Result.{on_ok_weaker}
use Rattle.asl_ways.specs.Coming.{coming}
use Rattle.asl_ways.proofs.Found.{taken_one, visits_none, visits_one}
use Rattle.asl_ways.proofs.search.Search.visit.Goals as goal

pub returns-then-branch-clause-visits : goal.returns-then-branch-clause-visits
returns-then-branch-clause-visits c =
    let shapes = c.args.shapes.now in
    let wanted = c.in_ok-is_wanted.ensures in
    on_ok_weaker c.push.result (λ whole. visits_one shapes c.args.before c.args.self.now c.push.new.self c.args.arrival whole c.push.ensures.most (wanted.inhabited c.if-branch.true) c.requires.below (wanted.new c.if-branch.true)) c.push.ensures.visits

pub returns-else-branch-clause-visits : goal.returns-else-branch-clause-visits
returns-else-branch-clause-visits c =
    let table = c.args.shapes.now in
    visits_none table c.args.before c.args.self.now (coming table c.args.arrival ∷ []) (λ room. taken_one table c.args.self.now.visits.items (coming table c.args.arrival) (λ some. c.in_ok-is_wanted.ensures.taken_in c.if-branch.false room some))
