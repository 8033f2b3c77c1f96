-- Declared shapes and certificates whose plain shapes are proper.
use Rattle.std.specs.Prelude.{All, IfSome, IsTrue, List, String}
use Rattle.std.specs.Map.{values_of}
use Rattle.std.specs.declared.alloc.Global.{Global}
use Rattle.asl_shape.specs.Properness.{is_proper}
use Rattle.asl_shape.specs.declared.shape.Shape.{Shape}
use Rattle.asl_records.specs.declared.records.Certificate.{Certificate}
use Rattle.asl_records.specs.declared.records.Declared.{Declared}
use Rattle.asl_records.specs.declared.records.StateShapes.{StateShapes}
use Rattle.asl_records.specs.declared.records.TaskShapes.{TaskShapes}

-- the shape is proper, as a fact
abbrev pub IsProper : Shape → Type 0
IsProper s = IsTrue (is_proper s)

-- both shapes of a task are proper
pub record IsProperTask (task : TaskShapes) : Type 0 where
  pub takes : IsProper task.takes
  pub gives : IsProper task.gives

-- those of each task
abbrev pub AreProperTasks : List (String Global × TaskShapes) → Type 0
AreProperTasks entries = All IsProperTask (values_of entries)

-- that of the input, and those of each task
pub record IsProperDeclared (declared : Declared) : Type 0 where
  pub input : IsProper declared.input
  pub tasks : AreProperTasks declared.tasks.entries

-- every shape of a state is proper
pub record IsProperState (state : StateShapes) : Type 0 where
  pub input : IsProper state.input
  pub output : IsProper state.output
  pub branches : All IsProper state.branches.items
  pub item : IfSome state.item IsProper

-- those of each state
abbrev pub AreProperStates : List (String Global × StateShapes) → Type 0
AreProperStates entries = All IsProperState (values_of entries)

-- that of the output, and those of each state
pub record IsProperCertificate (certificate : Certificate) : Type 0 where
  pub output : IsProper certificate.output
  pub states : AreProperStates certificate.states.entries
