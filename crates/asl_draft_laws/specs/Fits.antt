-- What flows through a state is inside what is certified there.
use Rattle.std.specs.Prelude.{ℕ, List, [], ◌∷◌}
use Rattle.asl_model.specs.Shape.{Shape, Inside}
use Rattle.asl_model.specs.Certificate.{Declared, Certificate, certified_input, certified_output, takes_of}
use Rattle.asl_model.specs.Edges.{Destination, ToInput, ToOutput, ToEnd, ToTask, Walked, Flows, Breaks}

-- what is certified where an edge of the state of that name leads to, in a scope with that end
abbrev pub certified_at : Declared → Certificate → Shape → List ℕ → Destination → Shape
certified_at declared certificate end n (ToInput next) = certified_input certificate next
certified_at declared certificate end n ToOutput = certified_output certificate n
certified_at declared certificate end n ToEnd = end
certified_at declared certificate end n ToTask = takes_of declared n

-- what flows at a step is inside what is certified there, and nothing stops it
abbrev pub StepFits : Declared → Certificate → Shape → List ℕ → Walked → Type 0
StepFits declared certificate end n (Flows edge) = Inside edge.flowing (certified_at declared certificate end n edge.destination)
StepFits declared certificate end n (Breaks breach) = ⊥

abbrev pub AllFit : Declared → Certificate → Shape → List ℕ → List Walked → Type 0
AllFit declared certificate end n [] = Unit {0}
AllFit declared certificate end n (step ∷ steps) = StepFits declared certificate end n step × AllFit declared certificate end n steps
