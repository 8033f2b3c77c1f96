use Rattle.std.proofs.Common.{◌≡◌, List, length, option_map, option_to_list, refl, sym, subst, ◌∙◌}
use Rattle.std.specs.Prelude.{IfSome}
use Rattle.asl_model.specs.Edges.{breaches_at}
use Rattle.asl_model.specs.Shape.{Shape}
use Rattle.asl_state_edges.specs.View.{step_view, AreStepsBelow}
use Rattle.asl_check.specs.Faults.{fault_view, IsFaultBelow}
use Rattle.asl_check.specs.Standing.{standing_view}
use Rattle.asl_check.proofs.Passes.{all_left}
use Rattle.asl_check.proofs.StepsApart.{step_apart}
use Rattle.asl_check.proofs.StepsListed.{step_below, step_listed, steps_listed}
use Rattle.asl_check.proofs.standing.Standing.list_steps.Goals as goal

pub loop-step-init : goal.loop-step-init
loop-step-init c = record { unchanged = refl; left = all_left _ _ _ _ refl }

pub broken_at-requires-clause-below : goal.broken_at-requires-clause-below
broken_at-requires-clause-below c =
    let below = subst (λ table. AreStepsBelow (length table) c.args.steps.now) (sym c.loop-step.invariant.unchanged) c.requires.below in
    step_below _ c.args.steps.now c.loop-step.step-index _ c.loop-step-test.true c.step-item.is below

pub broken_at-requires-clause-apart : goal.broken_at-requires-clause-apart
broken_at-requires-clause-apart c = step_apart c.args.steps.now c.loop-step.step-index _ c.loop-step-test.true c.step-item.is c.requires.apart

pub loop-step-preserved : goal.loop-step-preserved
loop-step-preserved c =
    let l = c.loop-step in
    let a = c.args.shapes.now in
    let s = c.args.self.now in
    let step = c.step-item.result in
    let fault = c.in_ok-fault.fault in
    let told = option_to_list (option_map (fault_view a) fault) in
    let fits : option_to_list (option_map (fault_view a) fault) ≡ breaches_at (standing_view a s) (step_view a step) = subst (λ (table : List Shape). option_to_list (option_map (fault_view table) fault) ≡ breaches_at (standing_view table s) (step_view table step)) l.invariant.unchanged c.in_ok-fault.ensures.told in
    let below = (subst (λ (table : List Shape). IfSome fault (IsFaultBelow (length table))) l.invariant.unchanged c.in_ok-fault.ensures.below) in
    record {
      unchanged = c.in_ok-fault.ensures.unchanged ∙ l.invariant.unchanged;
      left = step_listed a (standing_view a s) c.args.name.now _ _ _ _ c.args.steps.now l.step-index step told c.loop-step-test.true c.step-item.is fits l.invariant.left (c.in_ok-list.ensures a below);
    }

pub returns-clause-adds : goal.returns-clause-adds
returns-clause-adds c =
    let l = c.loop-step in
    steps_listed c.args.shapes.now _ _ _ _ _ c.args.steps.now l.step-index c.loop-step-test.false l.invariant.left
