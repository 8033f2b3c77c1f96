use Rattle.asl_model.proofs.NumberedBack.{numbered_back}
use Rattle.asl_model.proofs.RecordsBack.{proper_declared_back, proper_certificate_back}
use Rattle.asl_model.proofs.reading_laws.written_records_are_read_back.Goals as goal

pub returns : goal.returns
returns c = record { declared = proper_declared_back; certificate = proper_certificate_back; numbered = numbered_back }
