use Rattle.std.proofs.Common.{drop}
use Rattle.asl_shape.specs.LevelView.{texts}
use Rattle.asl_numbered.specs.Expansion.{fields_at, Keeps}
use Rattle.asl_numbered.proofs.Marking.{Marks}
use Rattle.asl_numbered.proofs.reading.require_all.Given as goal

abbrev pub invariant-loop-name : goal.invariant-loop-name
invariant-loop-name l =
    Keeps l.initial.table l.table
    × Marks l.extra (texts l.names) (fields_at l.initial.table l.initial.fields.entries) (texts (drop l.name-index l.names)) l.table l.fields.entries
