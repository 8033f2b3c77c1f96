use Rattle.std.proofs.Common.{◌↔◌}
use Rattle.asl_numbered.specs.Expansion.{numbers_in, AreBelow}
use Rattle.asl_numbered.proofs.table.fields_below.Given as goal

abbrev pub invariant-loop-field : goal.invariant-loop-field
invariant-loop-field l = AreBelow l.bound (numbers_in l.fields.entries) ↔ AreBelow l.bound (numbers_in l.field-iterator)
