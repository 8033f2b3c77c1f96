use Rattle.asl_model.proofs.ShapeInside.{sub-inside}
use Rattle.asl_model.proofs.shape_laws.sub_means_inside.Goals as goal

pub returns : goal.returns
returns c = record { inside = sub-inside }
