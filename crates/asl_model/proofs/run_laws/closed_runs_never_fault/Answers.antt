use Rattle.asl_model.proofs.RunLaws.{never_fault}
use Rattle.asl_model.proofs.run_laws.closed_runs_never_fault.Goals as goal

pub returns : goal.returns
returns c = never_fault
