use Rattle.asl_model.proofs.ShapeHonest.{found-outside, inside-sub}
use Rattle.asl_model.proofs.ShapeOutside.{outside-exactly}
use Rattle.asl_model.proofs.shape_laws.sub_is_exactly_inside.Goals as goal

pub returns : goal.returns
returns c = record { outside = found-outside; exactly = outside-exactly; complete = inside-sub }
