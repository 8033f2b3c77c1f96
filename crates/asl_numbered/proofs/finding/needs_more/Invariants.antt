use Rattle.std.proofs.Common.{◌≡◌, List}
use Rattle.asl_model.specs.Examples as model
use Rattle.asl_model.specs.Shape.{Shape}
use Rattle.asl_numbered.specs.Expansion.{fields_at}
use Rattle.asl_numbered.proofs.finding.needs_more.Given as goal

abbrev pub invariant-loop-name : goal.invariant-loop-name
invariant-loop-name l =
    (table : List Shape) → model.needs_more (fields_at table l.inner.entries) (fields_at table l.outer.entries)
    ≡ model.needs_more (fields_at table l.inner.entries) (fields_at table l.name-iterator)
