use Rattle.asl_model.proofs.RunLaws.{no_fault_told}
use Rattle.asl_model.proofs.run_laws.closed_runs_tell_no_fault.Goals as goal

pub returns : goal.returns
returns c = no_fault_told
