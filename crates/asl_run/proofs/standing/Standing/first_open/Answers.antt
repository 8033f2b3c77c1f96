use Rattle.std.proofs.Common.{◌≡◌, ◌<◌, ◌+◌, ◌++◌, ◌∷◌, [], length, sym, ap, ◌∙◌, subst, arith, rules, slice_get}
use Rattle.asl_run.specs.Nodes.{IsTable}
use Rattle.asl_run.proofs.FirstOpen.{first_in, first_alone, first_at_split, first_child_stands, first_down}
use Rattle.asl_run.proofs.OnTheWay.{IsNoted, IsOnTheWay, at_first, is_noted}
use Rattle.asl_run.proofs.standing.Standing.first_open.Goals as goal
use Rattle.asl_run.proofs.standing.Standing.first_open.Goals.{After-is_joinable}

-- what is noted of the children
noted_here : (c : After-is_joinable) → IsNoted c.args.self.now c.loop-children.here.0 c.in-Split.children c.index-progress.result.now
noted_here c =
    is_noted c.self.inside.nodes c.args.self.now c.self.inside.progress.items c.self.inside.open_count c.loop-children.here.0 c.node.result.now c.in-Split.visit c.in-Split.children c.index-progress.result.now
    c.self.view_is c.self.invariant c.loop-children.invariant.below c.node.ensures.node c.in-Split.is c.index-progress.ensures

pub returns-then-is_joinable : goal.returns-then-is_joinable
returns-then-is_joinable c =
    first_at_split c.args.self.now c.loop-children.here.0 c.in-Split.children c.index-progress.result.now (noted_here (goal.at.returns-then-is_joinable c).After-is_joinable) (sym c.is_joinable.ensures ∙ c.if-is_joinable.true) c.loop-children.place.items c.loop-children.invariant

pub overflow_add-here : goal.overflow_add-here
overflow_add-here c =
    let child = first_child_stands c.args.self.now c.loop-children.here.0 c.in-Split.children c.index-progress.result.now (noted_here (goal.at.overflow_add-here c).After-is_joinable) (sym c.is_joinable.ensures ∙ c.if-is_joinable.false) in
    let few = subst (λ l. length l < 18446744073709551616) c.self.view_is c.node.ensures.few in
    omega (arith, child.1, few)

pub loop-children-smaller : goal.loop-children-smaller
loop-children-smaller c =
    let child = first_child_stands c.args.self.now c.loop-children.here.0 c.in-Split.children c.index-progress.result.now (noted_here (goal.at.loop-children-smaller c).After-is_joinable) (sym c.is_joinable.ensures ∙ c.if-is_joinable.false) in
    omega (arith, child.0, child.1)

pub loop-children-preserved : goal.loop-children-preserved
loop-children-preserved c =
    let place = c.loop-children.place.items in
    let first = c.index-progress.result.now.first in
    let pushed : c.push.new.self.items ≡ place ++ first ∷ [] = search rules in
    subst (λ p. IsOnTheWay first_in c.args.self.now p (c.in-Split.children.first.0 + first)) (sym pushed)
    (first_down c.args.self.now c.loop-children.here.0 c.in-Split.children c.index-progress.result.now (noted_here (goal.at.loop-children-preserved c).After-is_joinable) (sym c.is_joinable.ensures ∙ c.if-is_joinable.false) place c.loop-children.invariant)

pub loop-children-init : goal.loop-children-init
loop-children-init c = at_first first_in c.args.self.now (subst IsTable c.self.view_is c.root-here.ensures.table) c.requires.goes_on c.new-place.result.items c.root-here.result.0 c.new-place.ensures.items c.root-here.ensures.first

pub returns : goal.returns
returns c = first_alone c.args.self.now (subst IsTable c.self.view_is c.node.ensures.table) c.loop-children.here.0 c.node.result.now (ap (λ l. slice_get l c.loop-children.here.0) (sym c.self.view_is) ∙ c.node.ensures.node) c.in_default.not-Split c.loop-children.place.items c.loop-children.invariant
