use Rattle.std.proofs.Common.{◌≡◌, ◌<◌, ◌+◌, ◌-◌, ◌++◌, ◌∷◌, [], length, sym, ap, ◌∙◌, subst, arith, rules, slice_get}
use Rattle.asl_run.specs.Nodes.{IsTable}
use Rattle.asl_run.proofs.LastOpen.{last_in, last_alone, last_at_split, last_child_stands, last_down}
use Rattle.asl_run.proofs.OnTheWay.{IsNoted, IsOnTheWay, at_first, counted_in, is_noted}
use Rattle.asl_run.proofs.standing.Standing.last_open.Goals as goal
use Rattle.asl_run.proofs.standing.Standing.last_open.Goals.{After-index-progress}

-- what is noted of the children
noted_here : (c : After-index-progress) → IsNoted c.args.self.now c.loop-children.here.0 c.in-Split.children c.index-progress.result.now
noted_here c =
    is_noted c.self.inside.nodes c.args.self.now c.self.inside.progress.items c.self.inside.open_count c.loop-children.here.0 c.node.result.now c.in-Split.visit c.in-Split.children c.index-progress.result.now
    c.self.view_is c.self.invariant c.loop-children.invariant.below c.node.ensures.node c.in-Split.is c.index-progress.ensures

pub returns-then-progress : goal.returns-then-progress
returns-then-progress c =
    last_at_split c.args.self.now c.self.inside.open_count c.loop-children.here.0 c.in-Split.children c.index-progress.result.now (counted_in c.self.inside.nodes c.args.self.now c.self.inside.progress.items c.self.inside.open_count c.self.view_is c.self.invariant)
    (noted_here (goal.at.returns-then-progress c).After-index-progress) (omega arith) c.loop-children.place.items c.loop-children.invariant

pub overflow_add-here : goal.overflow_add-here
overflow_add-here c =
    let far = c.index-progress.result.now in
    let child = last_child_stands c.args.self.now c.loop-children.here.0 c.in-Split.children far (far.behind_last - 1) (noted_here (goal.at.overflow_add-here c).After-index-progress) (omega arith) in
    let few = subst (λ l. length l < 18446744073709551616) c.self.view_is c.node.ensures.few in
    omega (arith, child.1, few)

pub loop-children-smaller : goal.loop-children-smaller
loop-children-smaller c =
    let far = c.index-progress.result.now in
    let child = last_child_stands c.args.self.now c.loop-children.here.0 c.in-Split.children far (far.behind_last - 1) (noted_here (goal.at.loop-children-smaller c).After-index-progress) (omega arith) in
    omega (arith, child.0, child.1)

pub loop-children-preserved : goal.loop-children-preserved
loop-children-preserved c =
    let far = c.index-progress.result.now in
    let place = c.loop-children.place.items in
    let last = far.behind_last - 1 in
    let pushed : c.push.new.self.items ≡ place ++ last ∷ [] = search rules in
    subst (λ p. IsOnTheWay last_in c.args.self.now p (c.in-Split.children.first.0 + last)) (sym pushed)
    (last_down c.args.self.now c.loop-children.here.0 c.in-Split.children far last (noted_here (goal.at.loop-children-preserved c).After-index-progress) (omega arith) (omega arith) place c.loop-children.invariant)

pub loop-children-init : goal.loop-children-init
loop-children-init c = at_first last_in c.args.self.now (subst IsTable c.self.view_is c.root-here.ensures.table) c.requires.goes_on c.new-place.result.items c.root-here.result.0 c.new-place.ensures.items c.root-here.ensures.first

pub returns : goal.returns
returns c =
    last_alone c.args.self.now (subst IsTable c.self.view_is c.node.ensures.table) c.self.inside.open_count c.loop-children.here.0 c.node.result.now (counted_in c.self.inside.nodes c.args.self.now c.self.inside.progress.items c.self.inside.open_count c.self.view_is c.self.invariant)
    (ap (λ l. slice_get l c.loop-children.here.0) (sym c.self.view_is) ∙ c.node.ensures.node) c.in_default.not-Split c.loop-children.place.items c.loop-children.invariant
