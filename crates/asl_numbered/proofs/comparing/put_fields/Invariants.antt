use Rattle.std.proofs.Common.{◌≡◌, ◌++◌}
use Rattle.asl_numbered.specs.Comparison.{field_tasks}
use Rattle.asl_numbered.proofs.comparing.put_fields.Given as goal

abbrev pub invariant-loop-name : goal.invariant-loop-name
invariant-loop-name l =
    l.initial.tasks.items ++ field_tasks l.inner.entries l.outer.entries ≡ l.tasks.items ++ field_tasks l.inner.entries l.name-iterator
