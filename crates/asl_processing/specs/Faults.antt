-- The faults of the definitions that those of the code stand for.
use Rattle.asl_model.specs.Faults as model
use Rattle.asl_processing.specs.declared.faults.DataFlowError.{DataFlowError}
use Rattle.asl_processing.specs.declared.faults.DataFlowError.TheVariants as errors
use Rattle.asl_processing.specs.declared.faults.Fault.{Fault}

-- the error
abbrev pub error_view : DataFlowError → model.DataFlowError
error_view errors.ParameterPathFailure = model.ParameterPathFailure
error_view errors.ResultPathMatchFailure = model.ResultPathMatchFailure
error_view errors.NoChoiceMatched = model.NoChoiceMatched
error_view errors.IntrinsicFailure = model.IntrinsicFailure
error_view errors.NamesNothing = model.NamesNothing
error_view errors.WrongKind = model.WrongKind

-- the fault
abbrev pub fault_view : Fault → model.Fault
fault_view f = record { error = error_view f.error; field = f.field.now }
