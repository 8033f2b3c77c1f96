use Rattle.std.proofs.Common.{map, drop}
use Rattle.serde_json.specs.View.{items_view}
use Rattle.asl_model.specs.StandsFor.{retriers_complaints}
use Rattle.asl_fields.specs.Verdicts.{complaint_view, place_view}
use Rattle.asl_machine.proofs.Told.{TellsOf}
use Rattle.asl_machine.proofs.state_telling.tell_retriers.Given as goal

abbrev pub invariant-loop-index : goal.invariant-loop-index
invariant-loop-index l =
    TellsOf (map complaint_view l.initial.told.items) (map complaint_view l.told.items) (retriers_complaints (place_view l.place) (items_view l.elements)) (retriers_complaints (place_view l.place) (items_view (drop l.index l.elements)))
