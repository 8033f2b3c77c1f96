-- Names told by marks on the states to which a way leads. No public clause cites this module.
use Rattle.std.specs.Prelude.{◌≡◌, ◌<◌, ◌↔◌, ℕ, List, [], length, Bool, true, Option, Some, None, slice_get}
use Rattle.asl_model.specs.Names.{StateName}
use Rattle.asl_machine_table.specs.Table.{states_in, table_view}
use Rattle.asl_machine_table.specs.declared.machine.Machine.{Machine}
use Rattle.asl_states.specs.declared.states.State.{State}
use Rattle.asl_warnings.specs.Adding.{is_marked}
use Rattle.asl_warnings.specs.Led.{IsLed}
use Rattle.asl_warnings.specs.Notices.{told_if}
use Rattle.asl_warnings.specs.declared.marks.Marks.{Marks}

-- the states to which a way leads are marked, and no others
pub record IsExact (m : Machine) (led : Marks) : Type 0 where
  pub exact : (number : ℕ) → number < length (states_in m) → (is_marked led number ≡ true ↔ IsLed m number)

-- the name of a state that isn't marked
abbrev pub told_by : Option StateName → Option State → Bool → List StateName
told_by None state is_led = []
told_by (Some name) None is_led = []
told_by (Some name) (Some state) is_led = told_if is_led name

-- that of the state of that number
abbrev pub told_at : Machine → Marks → ℕ → List StateName
told_at m led number =
    told_by (slice_get (table_view m).names number) (slice_get (states_in m) number) (is_marked led number)
