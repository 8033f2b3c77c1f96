-- The numbers of what is declared of tasks. No public clause cites this module.
use Rattle.std.specs.Prelude.{◌≡◌, ℕ, List, Some, slice_get}
use Rattle.asl_model.specs.Certificate.{Declared, gives_of, takes_of}
use Rattle.asl_model.specs.Shape.{Shape}
use Rattle.asl_numbered.specs.Expansion.{Shows}
use Rattle.asl_infer.specs.declared.tasks.TaskNumbers.{TaskNumbers}

-- the numbers are those of the shapes of the task of that name
pub record IsTaskOf (declared : Declared) (n : List ℕ) (table : List Shape) (task : TaskNumbers) : Type 0 where
  pub takes : Shows table (takes_of declared n) task.takes
  pub gives : Shows table (gives_of declared n) task.gives

-- so for the tasks of the states with those names
pub record AreTasks (declared : Declared) (names : List (List ℕ)) (table : List Shape) (tasks : List TaskNumbers)
    : Type 0 where
  pub each : (i : ℕ) (n : List ℕ) (task : TaskNumbers) → slice_get names i ≡ Some n
      → slice_get tasks i ≡ Some task → IsTaskOf declared n table task
