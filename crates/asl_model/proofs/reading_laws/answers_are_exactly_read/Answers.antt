use Rattle.asl_model.proofs.AnswersExactly.{answers_exactly, bad_exactly}
use Rattle.asl_model.proofs.reading_laws.answers_are_exactly_read.Goals as goal

pub returns : goal.returns
returns c = record { read = answers_exactly; bad = bad_exactly }
