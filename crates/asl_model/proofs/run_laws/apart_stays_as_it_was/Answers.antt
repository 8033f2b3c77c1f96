use Rattle.asl_model.proofs.RunApart.{unchanged_apart, replaced_above}
use Rattle.asl_model.proofs.run_laws.apart_stays_as_it_was.Goals as goal

pub returns : goal.returns
returns c = record { apart = unchanged_apart; above = replaced_above }
