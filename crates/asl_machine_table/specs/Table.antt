-- The machine of the definitions that a machine shows.
use Rattle.std.specs.Prelude.{◌≡◌, List, map}
use Rattle.std.specs.List.{All}
use Rattle.asl_model.specs.Machine.{Scope}
use Rattle.asl_model.specs.Numbering.{Table, table_of, IsWellNamed}
use Rattle.asl_states.specs.declared.states.State.{State}
use Rattle.asl_states.specs.Machine.{state_view, scope_view}
use Rattle.asl_states.specs.Numbered.{AreNumbered}
use Rattle.asl_machine_table.specs.Held.{Held}
use Rattle.asl_machine_table.specs.Rebuilding.{machine_of}

-- its table: the names, the states without the states of their scopes, and where each stands
abbrev pub table_view : Held → Table
table_view m = record { names = m.names; states = map state_view m.states; placements = map scope_view m.placements }

-- the states of the code by number
abbrev pub states_in : Held → List State
states_in m = m.states

-- the machine of the definitions, which is known by its table
abbrev pub scope_in : Held → Scope
scope_in m = machine_of (table_view m)

-- each state that a field names has the number of its name
abbrev pub StatesAreNumbered : Held → Type 0
StatesAreNumbered m = All (AreNumbered m.names) m.states

-- the machine shows that one of the definitions: its table is that one's, the names in it lead to its states, and each
-- of them stands beside the number of its state
pub record Shows (m : Held) (machine : Scope) : Type 0 where
  pub table : table_view m ≡ table_of machine
  pub well_named : IsWellNamed machine
  pub numbered : StatesAreNumbered m

-- the table is that of a machine whose names lead to its states
pub record IsWhole (whole : Table) : Type 0 where
  pub table : whole ≡ table_of (machine_of whole)
  pub well_named : IsWellNamed (machine_of whole)
