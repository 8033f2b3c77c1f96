use Rattle.asl_model.proofs.WidestFindings.{widest_findings}
use Rattle.asl_model.proofs.inference_laws.the_widest_certificate_has_no_fault_of_its_own.Goals as goal

pub returns : goal.returns
returns c = record { of_machine = widest_findings }
