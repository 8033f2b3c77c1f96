use Rattle.std.proofs.Common.{◌≡◌, length}
use Rattle.asl_model.specs.Examples.{unshared_outside}
use Rattle.asl_numbered.specs.Expansion.{fields_at, numbers_in, AreBelow}
use Rattle.asl_numbered.specs.Outside.{needed_of}
use Rattle.asl_numbered.proofs.finding.find_forbidden.Given as goal

abbrev pub invariant-loop-name : goal.invariant-loop-name
invariant-loop-name l =
    (unshared_outside (fields_at l.table l.fields.entries) (fields_at l.table l.outer.entries) (needed_of l.table l.fields.entries)
    ≡ unshared_outside (fields_at l.table l.name-iterator) (fields_at l.table l.outer.entries) (needed_of l.table l.fields.entries))
    × AreBelow (length l.table) (numbers_in l.name-iterator)
