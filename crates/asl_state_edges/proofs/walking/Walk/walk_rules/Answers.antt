use Rattle.std.proofs.Common.{ap}
use Rattle.std.proofs.lemmas.List.{drop_all}
use Rattle.asl_numbered.specs.Laws.{keeps_same, kept_within}
use Rattle.asl_state_edges.specs.Steps.{rules_steps}
use Rattle.asl_state_edges.proofs.Adding.{adds_same}
use Rattle.asl_state_edges.proofs.Going.{goes_on_none, goes_on_then, goes_through}
use Rattle.asl_state_edges.proofs.KeptSteps.{rule_kept, rule_left}
use Rattle.asl_state_edges.proofs.walking.Walk.walk_rules.Goals as goal

pub loop-rule-init : goal.loop-rule-init
loop-rule-init c = goes_on_none _ _ _ _ (keeps_same _)

pub walk_rule-requires-clause-input : goal.walk_rule-requires-clause-input
walk_rule-requires-clause-input c = kept_within _ _ _ c.loop-rule.invariant.keeps c.requires.input

pub walk_rule-requires-clause-effective : goal.walk_rule-requires-clause-effective
walk_rule-requires-clause-effective c = kept_within _ _ _ c.loop-rule.invariant.keeps c.requires.effective

pub loop-rule-preserved : goal.loop-rule-preserved
loop-rule-preserved c =
    let l = c.loop-rule in
    let a = c.args.shapes.now in
    let walk = c.args.self.now in
    let left = rule_left a walk c.args.rules.now l.rule-index c.rule-item.result c.args.effective c.loop-rule-test.true c.rule-item.is in
    let same = rule_kept a l.shapes walk l.invariant.keeps c.args.effective c.requires.input c.requires.effective c.rule-item.result in
    goes_on_then _ _ _ _ _ _ _ _ _ _ left l.invariant c.in_ok-walk_rule.ensures.keeps (adds_same _ _ _ _ _ same c.in_ok-walk_rule.ensures.adds)

pub returns-clause-adds : goal.returns-clause-adds
returns-clause-adds c =
    let l = c.loop-rule in
    let none = ap (λ rules. rules_steps c.args.shapes.now c.args.self.now rules c.args.effective) (drop_all l.rule-index c.args.rules.now c.loop-rule-test.false) in
    goes_through _ _ _ _ _ _ none l.invariant
