-- The rules that are broken along a walk whatever is certified have faults of the machine.
use Rattle.std.proofs.Common.{◌≡◌, List, [], ◌∷◌, refl}
use Rattle.std.specs.List.{AllByRecursion}
use Rattle.std.specs.Prelude.{IsTrue}
use Rattle.asl_model.specs.Certificate.{StateShapes}
use Rattle.asl_model.specs.Edges.{ToTask, Walked, Flows, Breaks, walk}
use Rattle.asl_model.specs.Inference.{is_of_machine}
use Rattle.asl_model.specs.Machine.{Kind, Settings}
use Rattle.asl_model.specs.Shape.{Shape}
use Rattle.asl_check.proofs.WalkSteps.{IsOfWalk, edge_to_output, edge_to_next, edge_to_end, edge_to_child, edge_to_caught, edge_to_task, path_breaks, plain_breaks, plain_failure, plain_misfit, plain_kind, plain_default, walk_steps}

-- a rule that is broken on the way is of the machine or of what is declared, and so is one that is about a payload
abbrev pub IsOfMachine : Walked → Type 0
IsOfMachine (Flows edge) = edge.destination ≡ ToTask → IsTrue (is_of_machine edge.fault)
IsOfMachine (Breaks breach) = IsTrue (is_of_machine breach.fault)

pub record AreOfMachine (steps : List Walked) : Type 0 where
  pub each : AllByRecursion IsOfMachine steps

of_machine : (w : Walked) → IsOfWalk w → IsOfMachine w
of_machine w edge_to_output = λ e. absurd (cc)
of_machine w edge_to_next = λ e. absurd (cc)
of_machine w edge_to_end = λ e. absurd (cc)
of_machine w edge_to_child = λ e. absurd (cc)
of_machine w edge_to_caught = λ e. absurd (cc)
of_machine w edge_to_task = λ e. refl
of_machine w (path_breaks doubtful) = refl
of_machine w (plain_breaks plain_failure) = refl
of_machine w (plain_breaks plain_misfit) = refl
of_machine w (plain_breaks plain_kind) = refl
of_machine w (plain_breaks plain_default) = refl

are_of_machine : (steps : List Walked) → AllByRecursion IsOfWalk steps → AllByRecursion IsOfMachine steps
are_of_machine [] h = tt
are_of_machine (w ∷ steps) h = (of_machine w h.0, are_of_machine steps h.1)

pub walk_of_machine : (gives : Shape) (settings : Settings) (kind : Kind) (entry : StateShapes) → AreOfMachine (walk gives settings kind entry)
walk_of_machine gives settings kind entry = record { each = are_of_machine _ (walk_steps gives settings kind entry).each }
