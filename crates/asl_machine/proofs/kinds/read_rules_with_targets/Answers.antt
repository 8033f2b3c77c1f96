use Rattle.std.proofs.Common.{◌≡◌, [], map, ap, ◌∙◌, subst, rules}
use Rattle.serde_json.specs.View.{view}
use Rattle.asl_model.specs.StandsFor.{members_in, state_names, rules_complaints}
use Rattle.asl_states.specs.Machine.{choice_rule_view}
use Rattle.asl_fields.specs.Verdicts.{IsAmong, complaint_view, place_view}
use Rattle.asl_machine.proofs.Checks.{handed_on, told_first, told_next}
use Rattle.asl_machine.proofs.kinds.read_rules_with_targets.Goals as goal

pub returns-in_err-rules-clause-told : goal.returns-in_err-rules-clause-told
returns-in_err-rules-clause-told c =
    handed_on _ c.from_residual.result c.in_err-rules.field-0.0 c.from_residual.ensures.1 (told_first _ _ c.in_err-rules.field-0.0 c.in_err-rules.ensures.told)

pub returns-clause-told : goal.returns-clause-told
returns-clause-told c =
    let names = state_names (members_in (view c.args.scope.now)) in
    let slice : c.deref.result.now ≡ c.in_ok-rules.rules.items = search rules in
    let same = ap (map choice_rule_view) slice ∙ c.in_ok-rules.ensures.rules in
    told_next _ _ _ c.in_ok-rules.ensures.told (record { holds = subst (λ rs. rules_complaints (place_view c.args.place.now) names rs ≡ []) same c.in_ok-check_rule_targets.ensures.holds })

pub returns-in_err-check_rule_targets-clause-told : goal.returns-in_err-check_rule_targets-clause-told
returns-in_err-check_rule_targets-clause-told c =
    let names = state_names (members_in (view c.args.scope.now)) in
    let slice : c.deref.result.now ≡ c.in_ok-rules.rules.items = search rules in
    let same = ap (map choice_rule_view) slice ∙ c.in_ok-rules.ensures.rules in
    handed_on _ c.from_residual-in_err-check_rule_targets.result c.in_err-check_rule_targets.field-0.0 c.from_residual-in_err-check_rule_targets.ensures.1 (told_next _ _ _ c.in_ok-rules.ensures.told (record { holds = subst (λ rs. IsAmong (rules_complaints (place_view c.args.place.now) names rs) (complaint_view c.in_err-check_rule_targets.field-0.0)) same c.in_err-check_rule_targets.ensures.holds }))
