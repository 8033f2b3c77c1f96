-- The states of a machine, by number. No public clause cites this module.
use Rattle.std.specs.Prelude.{◌≡◌, ◌⊎◌, ℕ, Some, None, slice_get}
use Rattle.asl_machine_table.specs.Table.{states_in, table_view}
use Rattle.asl_machine_table.specs.declared.machine.Machine.{Machine}
use Rattle.asl_warnings.specs.declared.rows.Row.{Row}

-- the row is that of the state of that number
pub record IsRowOf (m : Machine) (wanted : ℕ) (row : Row) : Type 0 where
  pub number : row.number ≡ wanted
  pub name : slice_get (table_view m).names wanted ≡ Some row.name.now
  pub state : slice_get (states_in m) wanted ≡ Some row.state.now

-- no state has that number, or none of a name
abbrev pub HasNoRow : Machine → ℕ → Type 0
HasNoRow m number = (slice_get (table_view m).names number ≡ None) ⊎ (slice_get (states_in m) number ≡ None)
