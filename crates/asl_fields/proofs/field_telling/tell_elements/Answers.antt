use Rattle.std.proofs.Common.{sym}
use Rattle.std.proofs.lemmas.List.{map-append}
use Rattle.serde_json.specs.View.{items_view}
use Rattle.asl_model.specs.DefinitionTable as model
use Rattle.asl_model.specs.StandsFor.{complaint_at}
use Rattle.asl_fields.specs.Verdicts.{place_view}
use Rattle.asl_fields.specs.Telling.{element_misfits}
use Rattle.asl_fields.proofs.Single.{single_some}
use Rattle.asl_fields.proofs.Told.{tells_as, tells_then}
use Rattle.asl_fields.proofs.field_telling.tell_elements.Goals as goal

pub returns : goal.returns
returns c =
    let vs = items_view c.args.elements.now in
    let some = model.some_elements vs in
    let each = model.wrong_with_each (element_misfits c.args.element) vs in
    tells_as (sym (map-append (complaint_at (place_view c.args.place.now) c.args.field.now) some each)) (tells_then (c.in_ok-tell_fault.ensures some c.check_some.ensures (single_some vs)) c.in_ok-tell_each_element.ensures)
