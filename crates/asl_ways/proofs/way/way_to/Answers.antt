use Rattle.std.proofs.Common.{◌≤◌, ◌+◌, length, ap, ◌++◌, ◌∷◌, [], sym, ◌∙◌, subst}
use Rattle.asl_ways.proofs.Ways.{back_at_last, back_further, way_gone, way_many}
use Rattle.asl_ways.specs.Way.{IsWay}
use Rattle.asl_ways.proofs.way.way_to.Goals as goal

pub loop-before-init : goal.loop-before-init
loop-before-init c = back_at_last _ _ _ (c.in_ok-push.ensures.items ∙ ap (λ xs. xs ++ c.args.last ∷ []) c.new-way.ensures.items)

pub loop-before-preserved : goal.loop-before-preserved
loop-before-preserved c =
    let l = c.loop-before in
    back_further _ _ l.place _ l.way.items _ l.invariant (sym c.before_of.ensures ∙ c.in-Some.is) c.in_ok-push-2.ensures.items

pub returns-clause-way : goal.returns-clause-way
returns-clause-way c =
    let l = c.loop-before in
    subst (λ w. IsWay c.args.visits.now w c.args.last) (sym c.reverse.ensures.items) (way_gone _ _ l.place l.way.items l.invariant (sym c.before_of.ensures ∙ c.in_default.is))

pub returns-clause-many : goal.returns-clause-many
returns-clause-many c =
    let l = c.loop-before in
    subst (λ w. length w ≤ c.args.last + 1) (sym c.reverse.ensures.items) (way_many c.args.visits.now _ c.args.last (way_gone _ _ l.place l.way.items l.invariant (sym c.before_of.ensures ∙ c.in_default.is)))
