use Rattle.std.proofs.Common.{◌≡◌}
use Rattle.asl_model.specs.Examples.{fields_outside, unmentioned_shape}
use Rattle.asl_numbered.specs.Expansion.{fields_at, numbers_in, AreBelow}
use Rattle.asl_numbered.specs.Outside.{needed_of, unmentioned_fields}
use Rattle.asl_numbered.proofs.finding.find_unmentioned.Given as goal

abbrev pub invariant-loop-name : goal.invariant-loop-name
invariant-loop-name l =
    (unmentioned_fields l.table l.inner l.outer.entries
    ≡ fields_outside (unmentioned_shape (fields_at l.table l.inner.fields.now.entries) l.inner.more) (fields_at l.table l.name-iterator) (needed_of l.table l.inner.fields.now.entries))
    × AreBelow l.bound (numbers_in l.name-iterator)
