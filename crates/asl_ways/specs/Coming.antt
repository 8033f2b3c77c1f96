-- What comes to states, and where from.
use Rattle.std.specs.Prelude.{ℕ, zero, suc, List, [], ◌∷◌, ◌++◌, length, Option, Some, None, position, bytes_eq, slice_get}
use Rattle.asl_model.specs.Certificate.{Declared, gives_of}
use Rattle.asl_model.specs.Edges.{Destination, ToInput, ToOutput, ToEnd, ToTask, Walked, Flows, Breaks, walk}
use Rattle.asl_model.specs.Machine.{kind_of, settings_of}
use Rattle.asl_model.specs.Numbering.{Placement, Table}
use Rattle.asl_model.specs.Shape.{Shape}
use Rattle.asl_numbered.specs.Expansion.{shape_at}
use Rattle.asl_ways.specs.Exits.{exit_at, none_passed, passed_on}
use Rattle.asl_ways.specs.Given.{Given, Row, row_at}
use Rattle.asl_ways.specs.declared.arriving.Arrival.{Arrival}
use Rattle.asl_ways.specs.declared.arriving.Origin.{Origin}
use Rattle.asl_ways.specs.declared.exits.Exit.{Exit}
use Rattle.asl_ways.specs.declared.exits.Passed.{Passed}

-- what comes to a state: its number, the shape, and where it comes from, if it isn't the machine's input
pub record Coming : Type 0 where
  pub state : ℕ
  pub shape : Shape
  pub origin : Option Origin

-- an arrival, with the shapes of a table
abbrev pub coming : List Shape → Arrival → Coming
coming table arrival = record { state = arrival.state; shape = shape_at table arrival.shape; origin = arrival.origin }

-- ---- along a walk

-- what comes from a state by that exit to the state of a number, if there is one
abbrev pub comes_by : ℕ → Exit → Shape → Option ℕ → List Coming
comes_by from exit s None = []
comes_by from exit s (Some state) =
    record { state = state; shape = s; origin = Some (record { state = from; exit = exit }) } ∷ []

-- what comes along an edge: where it leads into the state of a name, what flows
abbrev pub comes_to : Table → ℕ → Exit → Shape → Destination → List Coming
comes_to machine from exit s (ToInput n) = comes_by from exit s (position (bytes_eq n) machine.names)
comes_to machine from exit s ToOutput = []
comes_to machine from exit s ToEnd = []
comes_to machine from exit s ToTask = []

-- at a step
abbrev pub comes_at : Table → ℕ → Passed → Walked → List Coming
comes_at machine from passed (Flows edge) =
    comes_to machine from (exit_at passed edge.field) edge.flowing edge.destination
comes_at machine from passed (Breaks breach) = []

-- at the steps, each behind those before it
abbrev pub comes_along : Table → ℕ → Passed → List Walked → List Coming
comes_along machine from passed [] = []
comes_along machine from passed (step ∷ steps) =
    comes_at machine from passed step ++ comes_along machine from (passed_on passed step) steps

-- ---- from states

-- the walk through a certified state, where what comes to it has that shape
abbrev pub walk_with : Declared → Shape → Row → List Walked
walk_with declared s row =
    walk (gives_of declared row.name) (settings_of row.state) (kind_of row.state) (record row.own { input = s })

-- what leaves it for others
abbrev pub leaves_row : Given → ℕ → Shape → Row → List Coming
leaves_row given number s row = comes_along given.machine number none_passed (walk_with given.declared s row)

abbrev pub leaves_from : Given → ℕ → Shape → Option Row → List Coming
leaves_from given number s None = []
leaves_from given number s (Some row) = leaves_row given number s row

-- what leaves the state of that number for others, where what comes to it has that shape
abbrev pub leaves : Given → ℕ → Shape → List Coming
leaves given number s = leaves_from given number s (row_at given number)

-- so where it has the shape that is certified
abbrev pub leaves_as_certified : Given → ℕ → Option Row → List Coming
leaves_as_certified given number None = []
leaves_as_certified given number (Some row) = leaves_row given number row.own.input row

abbrev pub leaves_certified : Given → ℕ → List Coming
leaves_certified given number = leaves_as_certified given number (row_at given number)

-- from each of the first states, so many
abbrev pub leaves_first : Given → ℕ → List Coming
leaves_first given zero = []
leaves_first given (suc count) = leaves_first given count ++ leaves_certified given count

-- ---- into the machine

-- the machine's input, which comes to the start state of its scope
abbrev pub starts_in : Declared → Option Placement → List Coming
starts_in declared None = []
starts_in declared (Some scope) = record { state = scope.start; shape = declared.input; origin = None } ∷ []

-- that scope is the one in which the first state stands
abbrev pub starts : Given → List Coming
starts given = starts_in given.declared (slice_get given.machine.placements 0)

-- all that comes to states as they are certified
abbrev pub all_coming : Given → List Coming
all_coming given = starts given ++ leaves_first given (length given.machine.states)
