-- What is said of every shape in declared shapes and certificates.
use Rattle.std.specs.Prelude.{ℕ, List, IfSome}
use Rattle.std.specs.List.{AllByRecursion}
use Rattle.asl_model.specs.Shape.{Shape}
use Rattle.asl_model.specs.Certificate.{TaskShapes, Declared, StateShapes, Certificate}

-- it holds for both shapes of a task
pub record HoldsForTask (P : Shape → Type 0) (task : TaskShapes) : Type 0 where
  pub takes : P task.takes
  pub gives : P task.gives

-- for the shape of the input, and for those of each task
pub record HoldsForDeclared (P : Shape → Type 0) (declared : Declared) : Type 0 where
  pub input : P declared.input
  pub tasks : AllByRecursion (λ (entry : List ℕ × TaskShapes). HoldsForTask P entry.1) declared.tasks

-- for every shape in a state's entry
pub record HoldsForState (P : Shape → Type 0) (shapes : StateShapes) : Type 0 where
  pub input : P shapes.input
  pub output : P shapes.output
  pub branches : AllByRecursion P shapes.branches
  pub item : IfSome shapes.item P

-- for the shape of the output, and for those of each state
pub record HoldsForCertificate (P : Shape → Type 0) (certificate : Certificate) : Type 0 where
  pub output : P certificate.output
  pub states : AllByRecursion (λ (entry : List ℕ × StateShapes). HoldsForState P entry.1) certificate.states
