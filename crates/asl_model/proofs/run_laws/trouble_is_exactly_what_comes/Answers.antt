use Rattle.asl_model.proofs.RunTrouble.{trouble_exactly}
use Rattle.asl_model.proofs.run_laws.trouble_is_exactly_what_comes.Goals as goal

pub returns : goal.returns
returns c = trouble_exactly
