use Rattle.asl_model.proofs.ShapeLook.{look-names}
use Rattle.asl_model.proofs.shape_laws.look_means_named.Goals as goal

pub returns : goal.returns
returns c = record { named = look-names }
