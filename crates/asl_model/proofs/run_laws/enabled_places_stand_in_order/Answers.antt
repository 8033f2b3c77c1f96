use Rattle.asl_model.proofs.RunOrder.{enabled_in_order}
use Rattle.asl_model.proofs.run_laws.enabled_places_stand_in_order.Goals as goal

pub returns : goal.returns
returns c = enabled_in_order
