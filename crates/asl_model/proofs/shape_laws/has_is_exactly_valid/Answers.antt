use Rattle.asl_model.proofs.ShapeValid.{valid_exactly}
use Rattle.asl_model.proofs.shape_laws.has_is_exactly_valid.Goals as goal

pub returns : goal.returns
returns c = record { exactly = valid_exactly }
