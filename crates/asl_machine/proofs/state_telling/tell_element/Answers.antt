use Rattle.std.proofs.Common.{◌≡◌, Some, false, is_some, true, rules}
use Rattle.serde_json.specs.Find.{as_object}
use Rattle.serde_json.specs.View.{view}
use Rattle.asl_model.specs.DefinitionTable.{wrong_kind}
use Rattle.asl_model.specs.StandsFor.{complaint_at}
use Rattle.asl_fields.specs.Verdicts.{complaint_view, place_view}
use Rattle.asl_fields.specs.Rows.{rows_view}
use Rattle.asl_machine.proofs.Splits.{element_is_none, element_is_object}
use Rattle.asl_machine.proofs.Told.{tells_on, told_all}
use Rattle.asl_machine.proofs.state_telling.tell_element.Goals as goal

pub returns-then-is_object : goal.returns-then-is_object
returns-then-is_object c =
    let v = view c.args.element.now in
    let there : is_some (as_object v) ≡ true = search rules in
    tells_on _ _ _ _ c.tell_fields.result (element_is_object (place_view c.args.place.now) c.args.field.now (rows_view c.args.rows.now) v there) c.tell_fields.ensures

pub returns-else-is_object : goal.returns-else-is_object
returns-else-is_object c =
    let v = view c.args.element.now in
    let place = place_view c.args.place.now in
    let field = c.args.field.now in
    let none : is_some (as_object v) ≡ false = search rules in
    let is : complaint_view c.complaint.result ≡ Some (complaint_at place field (wrong_kind v)) = search rules in
    told_all c.tell.result c.args.told.now.items c.tell.new.told.items (complaint_view c.complaint.result) (complaint_at place field (wrong_kind v)) _ c.tell.ensures is (element_is_none place field (rows_view c.args.rows.now) v none)
