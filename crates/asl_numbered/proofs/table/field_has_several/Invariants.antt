use Rattle.std.proofs.Common.{◌≡◌}
use Rattle.asl_model.specs.Shape as model
use Rattle.asl_numbered.specs.Expansion.{fields_at}
use Rattle.asl_numbered.proofs.table.field_has_several.Given as goal

abbrev pub invariant-loop-field : goal.invariant-loop-field
invariant-loop-field l =
    model.field_has_several (fields_at l.table l.fields.entries)
    ≡ model.field_has_several (fields_at l.table l.field-iterator)
