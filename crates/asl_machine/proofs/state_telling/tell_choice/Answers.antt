use Rattle.std.proofs.Common.{ap, codes}
use Rattle.serde_json.specs.View.{view}
use Rattle.asl_model.specs.StandsFor.{members_in, place_of_state, rules_complaints, state_names, text_at}
use Rattle.asl_fields.specs.Reading.{rules_among}
use Rattle.asl_machine.proofs.Single.{single_target}
use Rattle.asl_machine.proofs.Told.{tells_as, tells_then}
use Rattle.asl_machine.proofs.state_telling.tell_choice.Goals as goal

pub returns : goal.returns
returns c =
    let place = place_of_state c.args.name.now in
    let names = state_names (members_in (view c.args.scope.now)) in
    let default = single_target place names (codes "Default") (text_at (codes "Default") (members_in (view c.args.state.now))) in
    tells_then (c.in_ok-tell_found.ensures _ c.check_target.ensures default) (tells_as (ap (λ vs. rules_complaints place names (rules_among vs)) c.elements_of.ensures) c.in_ok-tell_rule_targets.ensures)
