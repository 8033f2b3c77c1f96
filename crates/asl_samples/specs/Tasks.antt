-- Declared shapes in which each Task takes and gives any tree.
use Rattle.std.specs.Prelude.{◌≡◌, ◌<◌, ℕ, List, Option, Some, None, IsTrue, is_some, slice_get, if◌then◌else◌}
use Rattle.asl_model.specs.Certificate.{TaskShapes, under}
use Rattle.asl_model.specs.Machine.{State, is_task, kind_of}
use Rattle.asl_model.specs.Names.{StateName}
use Rattle.asl_model.specs.Numbering.{Table}
use Rattle.asl_model.specs.Shape.{Any}

-- the name, where that state is there and is a Task
abbrev pub if_task : Option State → Option StateName → Option StateName
if_task None name = None
if_task (Some state) name = if is_task (kind_of state) then name else None

-- the name of the state of that number, where it is a Task
abbrev pub task_at : Table → ℕ → Option StateName
task_at table i = if_task (slice_get table.states i) (slice_get table.names i)

-- what takes any tree, and gives any
abbrev pub any_task : TaskShapes
any_task = record { takes = Any; gives = Any }

-- under the name of each Task among so many first states stands that one, and no other name has an entry
pub record AreTasksOf (table : Table) (many : ℕ) (tasks : List (StateName × TaskShapes)) : Type 0 where
  pub each : (i : ℕ) (n : StateName) → i < many → task_at table i ≡ Some n → under n tasks ≡ Some any_task
  pub others : (n : StateName) → IsTrue (is_some (under n tasks)) → (i : ℕ) × (task_at table i ≡ Some n)
