use Rattle.std.proofs.Common.{[], codes}
use Rattle.serde_json.specs.View.{view}
use Rattle.asl_model.specs.DefinitionTable.{every_state_rows, UnknownType}
use Rattle.asl_model.specs.StandsFor.{members_in, text_at, place_of_state, rows_complaints, unknown_type, complaint_at}
use Rattle.asl_machine.proofs.Checks.{told_first, told_next}
use Rattle.asl_fields.proofs.Objects.{told_head}
use Rattle.asl_machine.proofs.Nesting.{type_unknown}
use Rattle.asl_machine.proofs.scope_reading.told_without_type.Goals as goal

pub returns-in-Err : goal.returns-in-Err
returns-in-Err c =
    let place = place_of_state c.args.name.now in
    let ms = members_in (view c.args.state.now) in
    told_first (rows_complaints place every_state_rows ms) (unknown_type place (text_at (codes "Type") ms)) c.in-Err.complaint c.in-Err.ensures

pub returns-in-Ok : goal.returns-in-Ok
returns-in-Ok c =
    let place = place_of_state c.args.name.now in
    let ms = members_in (view c.args.state.now) in
    let unknown = type_unknown place ms c.in-Ok.ensures.holds c.requires in
    told_next (rows_complaints place every_state_rows ms) (unknown_type place (text_at (codes "Type") ms)) _ c.in-Ok.ensures
    (told_head (complaint_at place (codes "Type") UnknownType) [] _ c.complaint.result unknown c.complaint.ensures.seen)
