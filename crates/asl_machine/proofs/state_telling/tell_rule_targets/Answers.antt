use Rattle.serde_json.specs.View.{view}
use Rattle.asl_model.specs.StandsFor.{members_in, state_names}
use Rattle.asl_fields.specs.Verdicts.{place_view}
use Rattle.asl_machine.proofs.Splits.{rules_split}
use Rattle.asl_machine.proofs.Told.{less_left}
use Rattle.asl_machine.proofs.state_telling.tell_rule_targets.Goals as goal

pub loop-element-preserved : goal.loop-element-preserved
loop-element-preserved c =
    let l = c.loop-element in
    less_left l.invariant (rules_split (place_view c.args.place.now) (state_names (members_in (view c.args.scope.now))) c.args.elements.now l.element-index c.element-item.result c.loop-element-test.true c.element-item.is) c.in_ok-tell_rule_target.ensures
