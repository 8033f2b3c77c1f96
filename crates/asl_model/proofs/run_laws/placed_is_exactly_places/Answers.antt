use Rattle.asl_model.proofs.PlacingExactly.{places_exactly}
use Rattle.asl_model.proofs.run_laws.placed_is_exactly_places.Goals as goal

pub returns : goal.returns
returns c = places_exactly
