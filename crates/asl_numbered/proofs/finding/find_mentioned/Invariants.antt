use Rattle.std.proofs.Common.{◌≡◌}
use Rattle.asl_model.specs.Examples.{fields_outside, mentioned_shape}
use Rattle.asl_numbered.specs.Comparison.{AreRight}
use Rattle.asl_numbered.specs.Expansion.{fields_at, numbers_in, AreBelow}
use Rattle.asl_numbered.specs.Outside.{needed_of, mentioned_fields}
use Rattle.asl_numbered.proofs.finding.find_mentioned.Given as goal

abbrev pub invariant-loop-name : goal.invariant-loop-name
invariant-loop-name l =
    (mentioned_fields l.table l.inner.entries l.outer.entries
    ≡ fields_outside (mentioned_shape (fields_at l.table l.inner.entries)) (fields_at l.table l.name-iterator) (needed_of l.table l.inner.entries))
    × AreBelow l.bound (numbers_in l.name-iterator) × AreRight l.table l.compared.entries
