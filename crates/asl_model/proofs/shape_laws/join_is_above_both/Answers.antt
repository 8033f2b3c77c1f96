use Rattle.asl_model.proofs.ShapeJoin.{join_above}
use Rattle.asl_model.proofs.shape_laws.join_is_above_both.Goals as goal

pub returns : goal.returns
returns c = record { left = join_above.left; right = join_above.right }
