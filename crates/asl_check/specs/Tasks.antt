-- What tasks take and give, by number.
use Rattle.std.specs.Prelude.{◌≡◌, ◌<◌, ℕ, List, length}
use Rattle.asl_model.specs.Certificate.{Declared, gives_of, takes_of}
use Rattle.asl_numbered.specs.Expansion.{shape_at}
use Rattle.asl_model.specs.Shape.{Shape}
use Rattle.asl_check.specs.declared.tasks.TaskNumbers.{TaskNumbers}

-- the numbers of the table are those of what the task of that name takes and gives
pub record AreOfTask (table : List Shape) (declared : Declared) (n : List ℕ) (task : TaskNumbers) : Type 0 where
  pub takes_within : task.takes < length table
  pub gives_within : task.gives < length table
  pub takes : shape_at table task.takes ≡ takes_of declared n
  pub gives : shape_at table task.gives ≡ gives_of declared n
