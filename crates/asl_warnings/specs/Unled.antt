-- Names of states to which no way leads.
use Rattle.std.specs.Prelude.{◌≡◌, ◌<◌, ℕ, List, length, Some, slice_get, Contains}
use Rattle.asl_model.specs.Names.{StateName}
use Rattle.asl_machine_table.specs.Table.{states_in, table_view}
use Rattle.asl_machine_table.specs.declared.machine.Machine.{Machine}
use Rattle.asl_warnings.specs.Led.{IsLed}

-- the state of that number has that name, and no way leads to it
pub record IsUnled (m : Machine) (number : ℕ) (name : StateName) : Type 0 where
  pub named : slice_get (table_view m).names number ≡ Some name
  pub stands : number < length (states_in m)
  pub unled : IsLed m number → ⊥

-- the names are those of the states to which no way leads
pub record TellsUnled (m : Machine) (names : List StateName) : Type 0 where
  pub right : (name : StateName) → Contains names name → (number : ℕ) × IsUnled m number name
  pub all : (number : ℕ) (name : StateName) → IsUnled m number name → Contains names name
