-- What is walked: a machine's table, what is declared, and what is certified of its states.
use Rattle.std.specs.Prelude.{ℕ, List, Option, Some, None, slice_get}
use Rattle.asl_model.specs.Certificate.{Declared, StateShapes, under}
use Rattle.asl_model.specs.Machine.{State}
use Rattle.asl_model.specs.Names.{StateName}
use Rattle.asl_model.specs.Numbering.{Table}
use Rattle.asl_model.specs.Shape.{Shape}
use Rattle.asl_states.specs.Machine.{state_view}
use Rattle.asl_machine_table.specs.Table.{table_view}
use Rattle.asl_machine_table.specs.declared.machine.Machine.{Machine}
use Rattle.asl_records.specs.Numbered.{numbered_entries, numbered_view, numbers_view}
use Rattle.asl_records.specs.View.{declared_view}
use Rattle.asl_records.specs.declared.records.Declared.{Declared as DeclaredShapes}
use Rattle.asl_records.specs.declared.records.NumberedCertificate.{NumberedCertificate}
use Rattle.asl_ways.specs.declared.leaving.Row.{Row as FoundRow}
use Rattle.asl_ways.specs.declared.leaving.Walker.{Walker}

pub record Given : Type 0 where
  pub machine : Table
  pub declared : Declared
  pub states : List (StateName × StateShapes)

-- a machine, what is declared, and a certificate
abbrev pub given_of : Machine → DeclaredShapes → NumberedCertificate → Given
given_of machine declared certificate = record {
  machine = table_view machine;
  declared = declared_view declared;
  states = (numbered_view certificate).states;
}

-- what a walker has, with the shapes of a table
abbrev pub given_in : List Shape → Walker → Given
given_in table walker = record {
  machine = table_view walker.machine.now;
  declared = declared_view walker.declared.now;
  states = numbered_entries table walker.states.now.entries;
}

-- a certified state: its name, itself, and what is certified of it
pub record Row : Type 0 where
  pub name : StateName
  pub state : State
  pub own : StateShapes

abbrev pub row_with : StateName → State → Option StateShapes → Option Row
row_with n state None = None
row_with n state (Some own) = Some (record { name = n; state = state; own = own })

-- the state of that name, if it is there and certified
abbrev pub row_of : List (StateName × StateShapes) → Option StateName → Option State → Option Row
row_of states (Some n) (Some state) = row_with n state (under n states)
row_of states (Some n) None = None
row_of states None state = None

-- that of a number
abbrev pub row_at : Given → ℕ → Option Row
row_at given number = row_of given.states (slice_get given.machine.names number) (slice_get given.machine.states number)

-- a row of the code, with the shapes of a table
abbrev pub row_view : List Shape → FoundRow → Row
row_view table row = record {
  name = row.name.now;
  state = state_view row.state.now;
  own = numbers_view table row.entry.now;
}
