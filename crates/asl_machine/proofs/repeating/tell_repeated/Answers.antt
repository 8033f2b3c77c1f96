use Rattle.asl_machine.proofs.Told.{tells_as}
use Rattle.asl_machine.proofs.repeating.tell_repeated.Goals as goal

pub returns : goal.returns
returns c = tells_as c.in_ok-repeated.ensures c.in_ok-tell_each.ensures
