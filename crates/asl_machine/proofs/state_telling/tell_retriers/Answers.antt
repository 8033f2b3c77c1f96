use Rattle.std.proofs.Common.{refl}
use Rattle.asl_fields.specs.Verdicts.{place_view}
use Rattle.asl_machine.proofs.Told.{less_left}
use Rattle.asl_machine.proofs.Troubles.{retriers_parts}
use Rattle.asl_machine.proofs.state_telling.tell_retriers.Goals as goal

pub loop-index-preserved : goal.loop-index-preserved
loop-index-preserved c =
    let item = c.index-elements-index in
    let l = c.loop-index in
    less_left l.invariant (retriers_parts (place_view c.args.place.now) _ c.args.elements.now l.index item.result c.loop-index-test.true item.is refl) c.in_ok-tell_retrier.ensures
