use Rattle.asl_model.proofs.ProperTexts.{trees_proper}
use Rattle.asl_model.proofs.reading_laws.trees_as_read_are_proper.Goals as goal

pub returns : goal.returns
returns c = trees_proper
