-- What the type of a state says of it.
use Rattle.asl_model.specs.DefinitionTable.{StateType, PassState, TaskState, ChoiceState, WaitState, SucceedState, FailState, ParallelState, MapState}
use Rattle.asl_model.specs.Machine.{Kind, Pass, Task, Choice, Wait, Succeed, Fail, Parallel, Map}

-- the type of a state
abbrev pub type_of : Kind → StateType
type_of (Pass result) = PassState
type_of (Task resource) = TaskState
type_of (Choice rules default) = ChoiceState
type_of (Wait delay) = WaitState
type_of Succeed = SucceedState
type_of (Fail error cause) = FailState
type_of (Parallel branches) = ParallelState
type_of (Map items selector processor) = MapState
