use Rattle.asl_model.proofs.RunPatterns.{cut_exactly}
use Rattle.asl_model.proofs.run_laws.matching_is_exactly_cutting.Goals as goal

pub returns : goal.returns
returns c = cut_exactly
