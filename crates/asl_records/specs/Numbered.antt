-- Certificates whose shapes stand in a table.
use Rattle.std.specs.Prelude.{◌<◌, ℕ, List, length, map, option_map, String, string_bytes, IfSome}
use Rattle.std.specs.List.{AllByRecursion}
use Rattle.std.specs.declared.alloc.Global.{Global}
use Rattle.asl_model.specs.Certificate as model
use Rattle.asl_model.specs.Shape.{Shape}
use Rattle.asl_numbered.specs.Expansion.{shape_at, AreBelow}
use Rattle.asl_records.specs.declared.records.NumberedCertificate.{NumberedCertificate}
use Rattle.asl_records.specs.declared.records.StateNumbers.{StateNumbers}

-- what is certified of a state, by the shapes of a table
abbrev pub numbers_view : List Shape → StateNumbers → model.StateShapes
numbers_view table entry = record {
  input = shape_at table entry.input;
  output = shape_at table entry.output;
  branches = map (shape_at table) entry.branches.items;
  item = option_map (shape_at table) entry.item;
}

-- so for the entries of a map, in the order of their names
abbrev pub numbered_entries : List Shape → List (String Global × StateNumbers)
    → List (List ℕ × model.StateShapes)
numbered_entries table entries = map (λ entry. (string_bytes entry.0, numbers_view table entry.1)) entries

-- a certificate
abbrev pub numbered_view : NumberedCertificate → model.Certificate
numbered_view certificate = record {
  output = shape_at certificate.shapes certificate.output;
  states = numbered_entries certificate.shapes certificate.states.entries;
}

-- the numbers of a state are below that bound
pub record AreNumbersBelow (bound : ℕ) (entry : StateNumbers) : Type 0 where
  pub input : entry.input < bound
  pub output : entry.output < bound
  pub branches : AreBelow bound entry.branches.items
  pub item : IfSome entry.item (λ n. n < bound)

-- so for each of the entries
pub record AreEntriesBelow (bound : ℕ) (entries : List (String Global × StateNumbers)) : Type 0 where
  pub each : AllByRecursion (λ (entry : String Global × StateNumbers). AreNumbersBelow bound entry.1) entries

-- all numbers of the certificate are in its table
pub record AreWithin (certificate : NumberedCertificate) : Type 0 where
  pub output : certificate.output < length certificate.shapes
  pub states : AreEntriesBelow (length certificate.shapes) certificate.states.entries
