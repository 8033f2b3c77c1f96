-- The states that a machine's graph leads to.
use Rattle.std.specs.Prelude.{◌≡◌, ◌++◌, ℕ, List, [], ◌∷◌, map, option_map, option_to_list, slice_get, Option, Some, None, Contains}
use Rattle.asl_model.specs.Numbering.{Placement}
use Rattle.asl_machine_table.specs.Table.{states_in, table_view}
use Rattle.asl_machine_table.specs.declared.machine.Machine.{Machine}
use Rattle.asl_states.specs.declared.states.State.{State}
use Rattle.asl_states.specs.declared.states.Settings.{Settings}
use Rattle.asl_states.specs.declared.states.Catcher.{Catcher}
use Rattle.asl_states.specs.declared.states.ChoiceRule.{ChoiceRule}
use Rattle.asl_states.specs.declared.states.Kind.{Kind}
use Rattle.asl_states.specs.declared.states.Kind.TheVariants as kinds
use Rattle.asl_states.specs.declared.target.Target.{Target}

-- the number of the state that a field names
abbrev pub number_of : Target → ℕ
number_of target = target.number

-- that of the state to which a catcher leads, and a rule
abbrev pub caught_by : Catcher → ℕ
caught_by catcher = catcher.next.number

abbrev pub chosen_by : ChoiceRule → ℕ
chosen_by rule = rule.next.number

-- the states that settings name: by `Next` and by `Catch`
abbrev pub named_in_settings : Settings → List ℕ
named_in_settings settings =
    option_to_list (option_map number_of settings.next) ++ map caught_by settings.catchers.items

-- those that a type names: where a Choice leads to, and where the children of a Parallel or a Map start
abbrev pub named_in_kind : Kind → List ℕ
named_in_kind (kinds.Pass result) = []
named_in_kind (kinds.Task resource) = []
named_in_kind (kinds.Choice choices default) =
    map chosen_by choices.items ++ option_to_list (option_map number_of default)
named_in_kind (kinds.Wait delay) = []
named_in_kind kinds.Succeed = []
named_in_kind (kinds.Fail error cause) = []
named_in_kind (kinds.Parallel branches) = map number_of branches.items
named_in_kind (kinds.Map items_path item_selector processor) = number_of processor ∷ []

-- those that a state names
abbrev pub named_in : State → List ℕ
named_in state = named_in_settings state.settings ++ named_in_kind state.kind

-- those that a state names, if it is there
abbrev pub named_by : Option State → List ℕ
named_by None = []
named_by (Some state) = named_in state

-- the number of a scope's start
abbrev pub start_of : Placement → ℕ
start_of scope = scope.start

-- A way leads to a state: it is the machine's start, or it is named in a state to which a way leads.
pub data IsLed (m : Machine) : ℕ → Type 0 where
  is_start : (scope : Placement) → slice_get (table_view m).placements 0 ≡ Some scope → IsLed m scope.start
  is_named : (number next : ℕ) (state : State) → IsLed m number → slice_get (states_in m) number ≡ Some state
      → Contains (named_in state) next → IsLed m next
