use Rattle.asl_model.proofs.ReadingLaws.{machine_is_one, machine_has_no_fault, declared_is_one, declared_has_no_fault, certificate_is_one, certificate_has_no_fault}
use Rattle.asl_model.proofs.reading_laws.values_stand_for_one_thing.Goals as goal

pub returns : goal.returns
returns c = record { machine = machine_is_one; no_complaint = machine_has_no_fault; declared = declared_is_one; no_declared_fault = declared_has_no_fault; certificate = certificate_is_one; no_certificate_fault = certificate_has_no_fault }
