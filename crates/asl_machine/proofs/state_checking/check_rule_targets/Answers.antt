use Rattle.serde_json.specs.View.{view}
use Rattle.asl_model.specs.StandsFor.{members_in, state_names}
use Rattle.asl_fields.specs.Verdicts.{place_view}
use Rattle.asl_machine.proofs.Checks.{handed_on, left_after, told_of_left}
use Rattle.asl_machine.proofs.Values.{rules_parts}
use Rattle.asl_machine.proofs.state_checking.check_rule_targets.Goals as goal

pub returns-in_err-check_rule_target : goal.returns-in_err-check_rule_target
returns-in_err-check_rule_target c =
    let parts = rules_parts (place_view c.args.place.now) (state_names (members_in (view c.args.scope.now))) _ c.args.rules.now c.loop-rule.rule-index c.rule-item.result c.loop-rule-test.true c.rule-item.is c.loop-rule.invariant in
    handed_on _ c.from_residual.result c.in_err-check_rule_target.field-0.0 c.from_residual.ensures.1 (told_of_left _ _ _ c.in_err-check_rule_target.field-0.0 parts c.in_err-check_rule_target.ensures)

pub loop-rule-preserved : goal.loop-rule-preserved
loop-rule-preserved c =
    let parts = rules_parts (place_view c.args.place.now) (state_names (members_in (view c.args.scope.now))) _ c.args.rules.now c.loop-rule.rule-index c.rule-item.result c.loop-rule-test.true c.rule-item.is c.loop-rule.invariant in
    left_after _ _ _ parts c.in_ok-check_rule_target.ensures
