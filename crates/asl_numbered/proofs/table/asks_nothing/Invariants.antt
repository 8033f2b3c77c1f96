use Rattle.std.proofs.Common.{◌≡◌}
use Rattle.asl_model.specs.ShapeOrder as order
use Rattle.asl_numbered.specs.Expansion.{fields_at}
use Rattle.asl_numbered.proofs.table.asks_nothing.Given as goal

abbrev pub invariant-loop-field : goal.invariant-loop-field
invariant-loop-field l =
    order.asks_nothing (fields_at l.table l.fields.entries)
    ≡ order.asks_nothing (fields_at l.table l.field-iterator)
