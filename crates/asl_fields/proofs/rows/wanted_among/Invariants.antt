use Rattle.std.proofs.Common.{◌≡◌, drop}
use Rattle.asl_fields.specs.Rows.{rows_view, wanted_among}
use Rattle.asl_fields.proofs.rows.wanted_among.Given as goal

abbrev pub invariant-loop-row : goal.invariant-loop-row
invariant-loop-row l = wanted_among l.name (rows_view l.rows) ≡ wanted_among l.name (rows_view (drop l.row-index l.rows))
