use Rattle.asl_model.proofs.PlacingExactly.{names_exactly}
use Rattle.asl_model.proofs.run_laws.named_by_is_exactly_names.Goals as goal

pub returns : goal.returns
returns c = names_exactly
