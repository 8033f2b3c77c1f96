use Rattle.std.proofs.Common.{codes}
use Rattle.serde_json.specs.View.{view}
use Rattle.asl_model.specs.StandsFor.{members_in, state_names, text_at}
use Rattle.asl_fields.specs.Verdicts.{place_view}
use Rattle.asl_machine.proofs.Single.{single_if, single_target}
use Rattle.asl_machine.proofs.Told.{tells_then}
use Rattle.asl_machine.proofs.state_telling.tell_catcher.Goals as goal

pub returns : goal.returns
returns c =
    let target = single_target (place_view c.args.place.now) (state_names (members_in (view c.args.scope.now))) (codes "Catch") (text_at (codes "Next") (members_in (view c.args.element.now))) in
    tells_then c.in_ok-tell_element.ensures (tells_then (c.in_ok-tell_found.ensures _ c.check_error_names.ensures (single_if _ _)) (c.in_ok-tell_found-2.ensures _ c.check_target.ensures target))
