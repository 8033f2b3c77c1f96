use Rattle.std.proofs.Common.{map, drop}
use Rattle.serde_json.specs.View.{view, items_view}
use Rattle.asl_model.specs.StandsFor.{members_in, catchers_complaints, state_names}
use Rattle.asl_fields.specs.Verdicts.{complaint_view, place_view}
use Rattle.asl_machine.proofs.Told.{TellsOf}
use Rattle.asl_machine.proofs.state_telling.tell_catchers.Given as goal

abbrev pub invariant-loop-index : goal.invariant-loop-index
invariant-loop-index l =
    TellsOf (map complaint_view l.initial.told.items) (map complaint_view l.told.items) (catchers_complaints (place_view l.place) (state_names (members_in (view l.scope))) (items_view l.elements)) (catchers_complaints (place_view l.place) (state_names (members_in (view l.scope))) (items_view (drop l.index l.elements)))
