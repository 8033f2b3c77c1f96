-- The data-flow faults (States Language, "Errors" and "Appendix A: Predefined Error Codes").
-- The profile adds `Path.NamesNothing` and `Path.WrongKind`, and chooses the cause: the name of the field where the
-- fault was met.
use Rattle.std.specs.Prelude.{Option, Some, None, Result, Ok, Err, codes}
use Rattle.asl_model.specs.Names.{FieldName, ErrorName}

-- the six errors that an interpreter itself raises
pub data DataFlowError : Type 0 where
  ParameterPathFailure : DataFlowError
  ResultPathMatchFailure : DataFlowError
  NoChoiceMatched : DataFlowError
  IntrinsicFailure : DataFlowError
  NamesNothing : DataFlowError
  WrongKind : DataFlowError

-- the error's name
abbrev pub error_name : DataFlowError → ErrorName
error_name ParameterPathFailure = codes "States.ParameterPathFailure"
error_name ResultPathMatchFailure = codes "States.ResultPathMatchFailure"
error_name NoChoiceMatched = codes "States.NoChoiceMatched"
error_name IntrinsicFailure = codes "States.IntrinsicFailure"
error_name NamesNothing = codes "Path.NamesNothing"
error_name WrongKind = codes "Path.WrongKind"

-- a data-flow fault: its error, and the name of the field where it was met
pub record Fault : Type 0 where
  pub error : DataFlowError
  pub field : FieldName

-- the value, or else that fault
abbrev pub or_fault : {A : Type 0} → DataFlowError → FieldName → Option A → Result A Fault
or_fault error field None = Err (record { error = error; field = field })
or_fault error field (Some a) = Ok a

-- goes on with the value, unless there was a fault
abbrev pub and_then : {A B : Type 0} → (A → Result B Fault) → Result A Fault → Result B Fault
and_then go_on (Ok a) = go_on a
and_then go_on (Err fault) = Err fault
