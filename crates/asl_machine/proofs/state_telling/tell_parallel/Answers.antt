use Rattle.asl_machine.proofs.Told.{tells_then}
use Rattle.asl_machine.proofs.state_telling.tell_parallel.Goals as goal

pub returns : goal.returns
returns c = tells_then c.in_ok-tell_next.ensures c.in_ok-tell_trouble.ensures
