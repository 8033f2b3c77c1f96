use Rattle.asl_model.proofs.ShapeLeave.{result-leaves, input-leaves}
use Rattle.asl_model.proofs.shape_laws.leave_means_an_output.Goals as goal

pub returns : goal.returns
returns c = record { result = result-leaves; input = input-leaves }
