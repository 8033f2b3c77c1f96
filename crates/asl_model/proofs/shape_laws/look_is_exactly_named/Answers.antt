use Rattle.asl_model.proofs.ShapeMissing.{missed, missing-exactly}
use Rattle.asl_model.proofs.shape_laws.look_is_exactly_named.Goals as goal

pub returns : goal.returns
returns c = record { missing = missed; exactly = missing-exactly }
