use Rattle.std.proofs.Common.{codes}
use Rattle.serde_json.specs.View.{view}
use Rattle.asl_model.specs.StandsFor.{members_in, place_of_state, state_names, text_at}
use Rattle.asl_machine.proofs.Single.{single_if, single_target}
use Rattle.asl_machine.proofs.Told.{tells_then}
use Rattle.asl_machine.proofs.state_telling.tell_next.Goals as goal

pub returns : goal.returns
returns c =
    let next = single_target (place_of_state c.args.name.now) (state_names (members_in (view c.args.scope.now))) (codes "Next") (text_at (codes "Next") (members_in (view c.args.state.now))) in
    tells_then (c.in_ok-tell_found.ensures _ c.check_goes_on.ensures (single_if _ _)) (c.in_ok-tell_found-2.ensures _ c.check_target.ensures next)
