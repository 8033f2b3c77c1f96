use Rattle.std.proofs.Common.{map, drop}
use Rattle.serde_json.specs.View.{items_view}
use Rattle.asl_model.specs.DefinitionTable as model
use Rattle.asl_model.specs.StandsFor.{complaint_at}
use Rattle.asl_fields.specs.Verdicts.{complaint_view, place_view}
use Rattle.asl_fields.specs.Telling.{element_misfits}
use Rattle.asl_fields.proofs.Told.{TellsOf}
use Rattle.asl_fields.proofs.field_telling.tell_each_element.Given as goal

abbrev pub invariant-loop-value : goal.invariant-loop-value
invariant-loop-value l =
    TellsOf (map complaint_view l.initial.told.items) (map complaint_view l.told.items) (map (complaint_at (place_view l.place) l.field) (model.wrong_with_each (element_misfits l.element) (items_view l.values))) (map (complaint_at (place_view l.place) l.field) (model.wrong_with_each (element_misfits l.element) (items_view (drop l.value-index l.values))))
