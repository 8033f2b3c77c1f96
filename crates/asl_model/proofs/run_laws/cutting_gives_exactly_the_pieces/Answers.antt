use Rattle.asl_model.proofs.RunPieces.{pieces_exactly}
use Rattle.asl_model.proofs.run_laws.cutting_gives_exactly_the_pieces.Goals as goal

pub returns : goal.returns
returns c = pieces_exactly
