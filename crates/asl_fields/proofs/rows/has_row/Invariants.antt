use Rattle.std.proofs.Common.{◌≡◌, drop}
use Rattle.asl_model.specs.StandsFor.{has_row}
use Rattle.asl_fields.specs.Rows.{rows_view}
use Rattle.asl_fields.proofs.rows.has_row.Given as goal

abbrev pub invariant-loop-row : goal.invariant-loop-row
invariant-loop-row l = has_row l.name (rows_view l.rows) ≡ has_row l.name (rows_view (drop l.row-index l.rows))
