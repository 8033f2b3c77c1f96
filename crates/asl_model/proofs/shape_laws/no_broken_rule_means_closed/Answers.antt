use Rattle.asl_model.proofs.FindingClosed.{none-closed}
use Rattle.asl_model.proofs.shape_laws.no_broken_rule_means_closed.Goals as goal

pub returns : goal.returns
returns c = record { closed = none-closed }
