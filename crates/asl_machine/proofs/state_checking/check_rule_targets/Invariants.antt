use Rattle.std.proofs.Common.{◌≡◌, map, drop}
use Rattle.serde_json.specs.View.{view}
use Rattle.asl_model.specs.StandsFor.{members_in, state_names, rules_complaints}
use Rattle.asl_states.specs.Machine.{choice_rule_view}
use Rattle.asl_fields.specs.Verdicts.{place_view}
use Rattle.asl_machine.proofs.state_checking.check_rule_targets.Given as goal

abbrev pub invariant-loop-rule : goal.invariant-loop-rule
invariant-loop-rule l =
    rules_complaints (place_view l.place) (state_names (members_in (view l.scope))) (map choice_rule_view l.rules) ≡ rules_complaints (place_view l.place) (state_names (members_in (view l.scope))) (map choice_rule_view (drop l.rule-index l.rules))
