use Rattle.std.proofs.Common.{◌≡◌, drop, map}
use Rattle.asl_fields.specs.Rows.{rows_view, wanted_in}
use Rattle.asl_fields.proofs.rows.wanted_in.Given as goal

abbrev pub invariant-loop-rows : goal.invariant-loop-rows
invariant-loop-rows l = wanted_in l.name (map (λ rows. rows_view rows.now) l.tables) ≡ wanted_in l.name (map (λ rows. rows_view rows.now) (drop l.rows-index l.tables))
