use Rattle.asl_model.proofs.PlacingExactly.{placed_so}
use Rattle.asl_model.proofs.ShapePut.{put-gives}
use Rattle.asl_model.proofs.shape_laws.put_means_placed.Goals as goal

pub returns : goal.returns
returns c = record { placed = λ path w s r e x v m h. let given = put-gives path w s r x v e m h in (given.0, placed_so path x v given.0 given.1, given.2) }
