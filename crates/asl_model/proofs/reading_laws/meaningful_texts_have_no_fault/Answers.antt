use Rattle.asl_model.proofs.PathReading.{spelled_not_refused}
use Rattle.asl_model.proofs.ReadingLaws.{definition_has_no_fault, declared_text_has_no_fault, certificate_text_has_no_fault}
use Rattle.asl_model.proofs.reading_laws.meaningful_texts_have_no_fault.Goals as goal

pub returns : goal.returns
returns c = record { path = spelled_not_refused; machine = definition_has_no_fault; declared = declared_text_has_no_fault; certificate = certificate_text_has_no_fault }
