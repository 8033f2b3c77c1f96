-- Names stand in order in what is declared and in what is certified by the numbers of a table.
use Rattle.std.proofs.Common.{ℕ, List, [], ◌∷◌, String, Global}
use Rattle.std.specs.List.{AllByRecursion}
use Rattle.std.specs.Map.{values_of}
use Rattle.asl_model.specs.Certificate as model
use Rattle.asl_model.specs.RecordShapes.{HoldsForCertificate, HoldsForTask}
use Rattle.asl_model.specs.Shape.{Shape, IsOrdered, IsProperShape}
use Rattle.asl_model.proofs.RecordsBack.{both_certificate}
use Rattle.asl_model.proofs.ShapeExample.{proper-ordered}
use Rattle.asl_numbered.specs.Expansion.{shape_at}
use Rattle.asl_shape.specs.View.{view}
use Rattle.asl_records.specs.View.{task_view, tasks_view}
use Rattle.asl_records.specs.declared.records.TaskShapes.{TaskShapes}
use Rattle.asl_records.proofs.References.{certificate_proper}
use Rattle.asl_check.specs.Numbers.{certificate_of}
use Rattle.asl_check.specs.declared.checker.Checker.{Checker}

-- ---- what is certified

pub certified : (table : List Shape) (c : Checker) → ((n : ℕ) → IsProperShape (shape_at table n)) → HoldsForCertificate IsOrdered (certificate_of table c)
certified table c proper =
    let all : HoldsForCertificate IsProperShape (certificate_of table c) = certificate_proper (record { shapes = table; output = c.output; states = c.states.now }) proper in
    both_certificate IsProperShape IsProperShape IsOrdered (λ s h p. proper-ordered s h) (certificate_of table c) all all

-- ---- what is declared of tasks

-- of one
abbrev pub IsTaskOrdered : TaskShapes → Type 0
IsTaskOrdered task = HoldsForTask IsOrdered (task_view task)

pub task_ordered : (task : TaskShapes) → IsProperShape (view task.takes) → IsProperShape (view task.gives) → IsTaskOrdered task
task_ordered task takes gives = record { takes = proper-ordered (view task.takes) takes; gives = proper-ordered (view task.gives) gives }

-- of each of several
abbrev pub AreTasksOrdered : List TaskShapes → Type 0
AreTasksOrdered tasks = AllByRecursion IsTaskOrdered tasks

-- those of a map
pub tasks_ordered : (entries : List (String Global × TaskShapes)) → AreTasksOrdered (values_of entries) → AllByRecursion (λ (entry : List ℕ × model.TaskShapes). HoldsForTask IsOrdered entry.1) (tasks_view entries)
tasks_ordered [] h = tt
tasks_ordered (entry ∷ entries) h = (h.0, tasks_ordered entries h.1)
