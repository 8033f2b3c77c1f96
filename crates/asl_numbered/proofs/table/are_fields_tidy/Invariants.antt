use Rattle.std.proofs.Common.{◌≡◌}
use Rattle.asl_numbered.specs.Expansion.{fields_at}
use Rattle.asl_numbered.specs.Kinds.{tidy_fields}
use Rattle.asl_numbered.proofs.table.are_fields_tidy.Given as goal

abbrev pub invariant-loop-field : goal.invariant-loop-field
invariant-loop-field l =
    tidy_fields (fields_at l.table l.fields.entries)
    ≡ tidy_fields (fields_at l.table l.field-iterator)
