use Rattle.asl_model.proofs.RunApart.{apart_commute}
use Rattle.asl_model.proofs.run_laws.apart_events_commute.Goals as goal

pub returns : goal.returns
returns c = apart_commute
