-- States that may be passed over in a round: a walk through them would change nothing.
use Rattle.std.specs.Prelude.{◌≡◌, ◌≢◌, ℕ, suc, List, [], ◌∷◌, Bool, IsTrue, Option, Some, None}
use Rattle.asl_model.specs.Certificate.{Declared, takes_of}
use Rattle.asl_model.specs.Edges.{Walked, Flows, Breaks}
use Rattle.asl_model.specs.Numbering.{Table}
use Rattle.asl_model.specs.Shape.{Shape}
use Rattle.asl_draft_laws.specs.Drafts.{Draft, Row, Target, MachineOutput, Input, Output, End, target_of, taken_at, own_breaches, steps_of}

-- the state of that number doesn't look at the shape: no state looks at its own output, nor at the machine's
abbrev pub IsPassedBy : ℕ → Target → Type 0
IsPassedBy n MachineOutput = Unit {0}
IsPassedBy n (Input m) = m ≢ n
IsPassedBy n (Output m) = Unit {0}
IsPassedBy n (End m child) = m ≢ n

-- What is remembered: whether that shape flowed into that one, from the state of that number, along the edge at that
-- place among its edges.
abbrev pub Memory : Type 0
Memory = Target → ℕ → ℕ → Shape → Bool

-- what flows from the state of that number along the edge at a place would change nothing, and is remembered
abbrev pub FlowRests : ℕ → Memory → Draft → ℕ → Option Target → Shape → Type 0
FlowRests n known draft place None s = Unit {0}
FlowRests n known draft place (Some target) s = (taken_at (Some target) s draft ≡ draft) × IsTrue (known target n place s)

abbrev pub StepRests : Table → ℕ → Memory → Draft → ℕ → Walked → Type 0
StepRests table n known draft place (Flows edge) =
    FlowRests n known draft place (target_of table n edge.destination) edge.flowing
StepRests table n known draft place (Breaks breach) = Unit {0}

-- so along the steps from that place on
abbrev pub StepsRest : Table → ℕ → Memory → Draft → ℕ → List Walked → Type 0
StepsRest table n known draft place [] = Unit {0}
StepsRest table n known draft place (step ∷ steps) =
    StepRests table n known draft place step × StepsRest table n known draft (suc place) steps

-- the state is at rest: the walk through it would break no rule of its own and change nothing
pub record Rests (table : Table) (declared : Declared) (row : Row) (known : Memory) (draft : Draft) : Type 0 where
  pub whole : own_breaches (takes_of declared row.name) (steps_of declared draft row) ≡ []
  pub steps : StepsRest table row.number known draft 0 (steps_of declared draft row)

-- all that is remembered to have flowed from the state of that number into the shape would change nothing again
abbrev pub IsTakenIn : ℕ → Memory → Target → Draft → Type 0
IsTakenIn n known target draft =
    (place : ℕ) (s : Shape) → IsTrue (known target n place s) → taken_at (Some target) s draft ≡ draft
