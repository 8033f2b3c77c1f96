use Rattle.std.proofs.Common.{refl}
use Rattle.serde_json.specs.View.{view}
use Rattle.asl_model.specs.StandsFor.{members_in, state_names}
use Rattle.asl_fields.specs.Verdicts.{place_view}
use Rattle.asl_machine.proofs.Told.{less_left}
use Rattle.asl_machine.proofs.Troubles.{catchers_parts}
use Rattle.asl_machine.proofs.state_telling.tell_catchers.Goals as goal

pub loop-index-preserved : goal.loop-index-preserved
loop-index-preserved c =
    let item = c.index-elements-index in
    let l = c.loop-index in
    less_left l.invariant (catchers_parts (place_view c.args.place.now) (state_names (members_in (view c.args.scope.now))) _ c.args.elements.now l.index item.result c.loop-index-test.true item.is refl) c.in_ok-tell_catcher.ensures
