use Rattle.std.proofs.Common.{sym, subst, ◌∙◌}
use Rattle.std.specs.List.{All}
use Rattle.std.proofs.lemmas.List.Elements.{All-push}
use Rattle.asl_numbered.specs.Laws.{keeps_trans}
use Rattle.asl_check.proofs.Adding.{rule_shown, rule_within}
use Rattle.asl_check.proofs.Findings.{all_told, one_told}
use Rattle.asl_check.specs.View.{IsLocated}
use Rattle.asl_check.proofs.telling.tell_each.Goals as goal

pub tell-requires : goal.tell-requires
tell-requires c = record { below = rule_within c.args.shapes.now c.loop-rule.shapes c.args.rules.now c.loop-rule.rule-index _ c.rule-item.is c.loop-rule.invariant.keeps c.loop-rule-test.true c.requires.below }

pub loop-rule-preserved : goal.loop-rule-preserved
loop-rule-preserved c =
    let a = c.args.shapes.now in
    let l = c.loop-rule in
    let rules = c.args.rules.now in
    let rule = c.rule-item.result in
    let within = c.loop-rule-test.true in
    let seen = c.in_ok-finding.ensures.told ∙ rule_shown a l.shapes rules l.rule-index rule c.rule-item.is l.invariant.keeps within c.requires.below in
    record {
      keeps = keeps_trans _ _ _ l.invariant.keeps c.in_ok-finding.ensures.keeps;
      located = subst (All IsLocated) (sym c.in_ok-push.ensures.items) (All-push IsLocated l.findings.items c.in_ok-finding.finding l.invariant.located c.in_ok-finding.ensures.located);
      told = one_told a rules l.findings.items _ c.in_ok-finding.finding l.rule-index rule c.in_ok-push.ensures.items seen within c.rule-item.is ∙ l.invariant.told;
    }

pub returns-clause-told : goal.returns-clause-told
returns-clause-told c = all_told c.args.shapes.now c.args.rules.now c.loop-rule.findings.items c.loop-rule.rule-index c.loop-rule-test.false c.loop-rule.invariant.told
