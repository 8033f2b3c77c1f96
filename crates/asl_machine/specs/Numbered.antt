-- What a table in the making holds, and where its states stand by the names in it.
use Rattle.std.specs.Prelude.{◌≡◌, ℕ, List, [], map, Option, option_map, string_bytes, position, bytes_eq}
use Rattle.std.specs.Option.{unwrap_or}
use Rattle.asl_model.specs.Numbering.{Standing, Placement, Table}
use Rattle.asl_model.specs.StandsFor.{duplicate_complaints}
use Rattle.asl_machine.specs.Built.{built_view}
use Rattle.asl_machine.specs.declared.building.BuiltState.{BuiltState}
use Rattle.asl_machine.specs.declared.building.Home.{Home}
use Rattle.asl_machine.specs.declared.numbering.Numbered.{Numbered}
use Rattle.asl_machine.specs.declared.numbering.Placed.{Placed}
use Rattle.asl_states.specs.Machine.{state_view, scope_view}

-- where a state stands, by names: its scope's start, and the state that the scope belongs to
abbrev pub home_view : Home → List ℕ × Option (List ℕ × ℕ)
home_view h = (h.start.now, option_map (λ o. (o.0.now, o.1)) h.owner)

-- the same of a state of the model
abbrev pub home_of : Standing → List ℕ × Option (List ℕ × ℕ)
home_of s = (s.start, s.owner)

-- the number of a name in a list; 0 where it isn't there
abbrev pub number_in : List (List ℕ) → List ℕ → ℕ
number_in names n = unwrap_or (position (bytes_eq n) names) 0

-- where it stands by the numbers of a list of names
abbrev pub placed_in : List (List ℕ) → List ℕ × Option (List ℕ × ℕ) → Placement
placed_in names home = record { start = number_in names home.0; owner = option_map (λ o. (number_in names o.0, o.1)) home.1 }

-- the names of states
abbrev pub names_of_all : List Standing → List (List ℕ)
names_of_all states = map (λ s. s.name) states

-- of states as they are built
abbrev pub names_of_rows : List BuiltState → List (List ℕ)
names_of_rows rows = names_of_all (map built_view rows)

-- the table that names, states and places are
abbrev pub placed_view : Placed → Table
placed_view p = record { names = map string_bytes p.names.keys; states = map state_view p.states.items; placements = map scope_view p.scopes.items }

-- a table in the making holds those states, and no name stands twice
pub record Holds (states : List Standing) (n : Numbered) : Type 0 where
  pub names : map string_bytes n.names.keys ≡ names_of_all states
  pub states_held : map state_view n.states.items ≡ map (λ s. s.state) states
  pub homes : map home_view n.homes.items ≡ map home_of states
  pub distinct : duplicate_complaints (names_of_all states) ≡ []
