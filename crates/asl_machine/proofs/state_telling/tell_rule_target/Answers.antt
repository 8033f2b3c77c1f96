use Rattle.std.proofs.Common.{codes, Some}
use Rattle.serde_json.specs.View.{view}
use Rattle.asl_model.specs.StandsFor.{members_in, state_names}
use Rattle.asl_states.specs.Machine.{choice_rule_view, target_name}
use Rattle.asl_fields.specs.Verdicts.{place_view}
use Rattle.asl_machine.proofs.Splits.{rule_told}
use Rattle.asl_machine.proofs.Single.{single_target}
use Rattle.asl_machine.proofs.Told.{tells_as}
use Rattle.asl_machine.proofs.state_telling.tell_rule_target.Goals as goal

pub returns-in_ok-tell_found-in-Ok : goal.returns-in_ok-tell_found-in-Ok
returns-in_ok-tell_found-in-Ok c =
    let place = place_view c.args.place.now in
    let names = state_names (members_in (view c.args.scope.now)) in
    tells_as (rule_told place names (view c.args.element.now) (choice_rule_view c.in-Ok.rule) c.in-Ok.ensures.rule) (c.in_ok-tell_found-in-Ok.ensures _ c.check_rule_target.ensures (single_target place names (codes "Choices") (Some (target_name c.in-Ok.rule.next))))
