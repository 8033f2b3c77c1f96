use Rattle.std.proofs.Common.{codes}
use Rattle.serde_json.specs.View.{view}
use Rattle.asl_model.specs.StandsFor.{members_in, place_of_state, text_at}
use Rattle.asl_machine.proofs.Single.{single_type}
use Rattle.asl_machine.proofs.Told.{tells_then}
use Rattle.asl_machine.proofs.scope_telling.tell_untyped.Goals as goal

pub returns : goal.returns
returns c =
    let type = text_at (codes "Type") (members_in (view c.args.state.now)) in
    tells_then c.in_ok-tell_rows.ensures (c.in_ok-tell_found.ensures _ c.check_type.ensures (single_type (place_of_state c.args.name.now) type))
