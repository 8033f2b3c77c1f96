use Rattle.asl_model.proofs.CallReading.{written_exactly}
use Rattle.asl_model.proofs.CallMeaning.{reference_exactly}
use Rattle.asl_model.proofs.reading_laws.written_calls_are_exactly_cut.Goals as goal

pub returns : goal.returns
returns c = record { written = written_exactly; reference = reference_exactly }
