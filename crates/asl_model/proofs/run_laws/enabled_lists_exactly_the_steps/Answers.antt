use Rattle.asl_model.proofs.RunEnabled.{enabled_exactly}
use Rattle.asl_model.proofs.run_laws.enabled_lists_exactly_the_steps.Goals as goal

pub returns : goal.returns
returns c = enabled_exactly
