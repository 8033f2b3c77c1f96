use Rattle.std.proofs.Common.{◌≡◌}
use Rattle.asl_model.specs.Shape as model
use Rattle.asl_numbered.specs.Expansion.{fields_at}
use Rattle.asl_numbered.proofs.table.needed_inhabited.Given as goal

abbrev pub invariant-loop-field : goal.invariant-loop-field
invariant-loop-field l =
    model.needed_inhabited (fields_at l.table l.fields.entries)
    ≡ model.needed_inhabited (fields_at l.table l.field-iterator)
