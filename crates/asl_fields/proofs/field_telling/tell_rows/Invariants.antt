use Rattle.std.proofs.Common.{map, drop}
use Rattle.serde_json.specs.View.{view}
use Rattle.asl_model.specs.StandsFor.{members_in, rows_complaints}
use Rattle.asl_fields.specs.Verdicts.{complaint_view, place_view}
use Rattle.asl_fields.specs.Rows.{rows_view}
use Rattle.asl_fields.proofs.Told.{TellsOf}
use Rattle.asl_fields.proofs.field_telling.tell_rows.Given as goal

abbrev pub invariant-loop-row : goal.invariant-loop-row
invariant-loop-row l =
    TellsOf (map complaint_view l.initial.told.items) (map complaint_view l.told.items) (rows_complaints (place_view l.place) (rows_view l.rows) (members_in (view l.object))) (rows_complaints (place_view l.place) (rows_view (drop l.row-index l.rows)) (members_in (view l.object)))
