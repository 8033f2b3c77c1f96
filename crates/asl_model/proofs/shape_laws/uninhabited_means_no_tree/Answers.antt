use Rattle.asl_model.proofs.ShapeInhabited.{no_tree}
use Rattle.asl_model.proofs.shape_laws.uninhabited_means_no_tree.Goals as goal

pub returns : goal.returns
returns c = record { none = no_tree }
