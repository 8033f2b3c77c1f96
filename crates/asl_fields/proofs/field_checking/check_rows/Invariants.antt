use Rattle.std.proofs.Common.{◌≡◌, drop}
use Rattle.serde_json.specs.View.{view}
use Rattle.asl_model.specs.StandsFor.{members_in}
use Rattle.asl_fields.specs.Reading.{checked_complaints}
use Rattle.asl_fields.specs.Rows.{rows_view}
use Rattle.asl_fields.specs.Verdicts.{place_view}
use Rattle.asl_fields.proofs.field_checking.check_rows.Given as goal

abbrev pub invariant-loop-row : goal.invariant-loop-row
invariant-loop-row l =
    checked_complaints (place_view l.place) (rows_view l.rows) (members_in (view l.object)) ≡ checked_complaints (place_view l.place) (rows_view (drop l.row-index l.rows)) (members_in (view l.object))
