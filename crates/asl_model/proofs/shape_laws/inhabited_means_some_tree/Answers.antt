use Rattle.asl_model.proofs.ShapeExample.{inhabited-some}
use Rattle.asl_model.proofs.shape_laws.inhabited_means_some_tree.Goals as goal

pub returns : goal.returns
returns c = record { some = inhabited-some }
