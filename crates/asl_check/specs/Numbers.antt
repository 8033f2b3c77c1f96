-- What is checked, by the numbers of a table of shapes.
use Rattle.std.specs.Prelude.{◌≡◌, ◌<◌, List, length}
use Rattle.asl_model.specs.Certificate.{Certificate}
use Rattle.asl_model.specs.Shape.{Shape, Never}
use Rattle.asl_numbered.specs.Expansion.{shape_at}
use Rattle.asl_records.specs.Numbered.{AreEntriesBelow, numbered_entries}
use Rattle.asl_check.specs.declared.checker.Checker.{Checker}

-- the certificate that is checked, with the shapes of a table
abbrev pub certificate_of : List Shape → Checker → Certificate
certificate_of table checker = record {
  output = shape_at table checker.output;
  states = numbered_entries table checker.states.now.entries;
}

-- the checker's numbers are those of the table, in which that of no tree stands
pub record IsWithin (table : List Shape) (checker : Checker) : Type 0 where
  pub output : checker.output < length table
  pub states : AreEntriesBelow (length table) checker.states.now.entries
  pub never : checker.never < length table
  pub no_tree : shape_at table checker.never ≡ Never
