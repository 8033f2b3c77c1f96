use Rattle.std.proofs.Common.{◌≡◌}
use Rattle.asl_model.specs.ShapeOrder as model
use Rattle.asl_numbered.specs.Expansion.{fields_at}
use Rattle.asl_numbered.proofs.comparing.others_never_there.Given as goal

abbrev pub invariant-loop-name : goal.invariant-loop-name
invariant-loop-name l =
    model.others_never_there (fields_at l.table l.outer.entries) (fields_at l.table l.inner.entries)
    ≡ model.others_never_there (fields_at l.table l.outer.entries) (fields_at l.table l.name-iterator)
