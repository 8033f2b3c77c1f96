use Rattle.std.proofs.Common.{◌≡◌}
use Rattle.serde_json.specs.View.{view, members_view}
use Rattle.asl_model.specs.StandsFor.{members_in, foreign_complaints}
use Rattle.asl_fields.specs.Rows.{rows_view}
use Rattle.asl_fields.specs.Verdicts.{place_view}
use Rattle.asl_fields.proofs.field_checking.check_names.Given as goal

abbrev pub invariant-loop-name : goal.invariant-loop-name
invariant-loop-name l =
    foreign_complaints (place_view l.place) (rows_view l.rows) (members_in (view l.object)) ≡ foreign_complaints (place_view l.place) (rows_view l.rows) (members_view l.name-iterator)
