use Rattle.std.proofs.Common.{map, drop}
use Rattle.serde_json.specs.View.{view, items_view}
use Rattle.asl_model.specs.StandsFor.{members_in, rules_complaints, state_names}
use Rattle.asl_fields.specs.Verdicts.{complaint_view, place_view}
use Rattle.asl_fields.specs.Reading.{rules_among}
use Rattle.asl_machine.proofs.Told.{TellsOf}
use Rattle.asl_machine.proofs.state_telling.tell_rule_targets.Given as goal

abbrev pub invariant-loop-element : goal.invariant-loop-element
invariant-loop-element l =
    TellsOf (map complaint_view l.initial.told.items) (map complaint_view l.told.items) (rules_complaints (place_view l.place) (state_names (members_in (view l.scope))) (rules_among (items_view l.elements))) (rules_complaints (place_view l.place) (state_names (members_in (view l.scope))) (rules_among (items_view (drop l.element-index l.elements))))
