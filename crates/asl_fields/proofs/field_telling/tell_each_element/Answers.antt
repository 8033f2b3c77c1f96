use Rattle.serde_json.specs.View.{view}
use Rattle.asl_model.specs.StandsFor.{complaint_at}
use Rattle.asl_fields.specs.Verdicts.{place_view}
use Rattle.asl_fields.specs.Telling.{element_misfits}
use Rattle.asl_fields.proofs.Single.{single_element}
use Rattle.asl_fields.proofs.Values.{elements_split}
use Rattle.asl_fields.proofs.Told.{less_left}
use Rattle.asl_fields.proofs.field_telling.tell_each_element.Goals as goal

pub loop-value-preserved : goal.loop-value-preserved
loop-value-preserved c =
    let l = c.loop-value in
    let element = c.args.element in
    let item = c.value-item in
    less_left l.invariant (elements_split (complaint_at (place_view c.args.place.now) c.args.field.now) (element_misfits element) c.args.values.now l.value-index item.result c.loop-value-test.true item.is)
    (c.in_ok-tell_fault.ensures (element_misfits element (view item.result)) c.find_element_misfit.ensures (single_element element (view item.result)))
