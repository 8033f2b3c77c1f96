use Rattle.asl_machine.proofs.Repeated.{last_told}
use Rattle.asl_machine.proofs.Told.{less_left}
use Rattle.asl_machine.proofs.repeating.tell_each.Goals as goal

pub loop-name-preserved : goal.loop-name-preserved
loop-name-preserved c = less_left c.loop-name.invariant (last_told c.loop-name.left.items c.pop.new.self.items c.in-Some.name c.in-Some.ensures.items) c.in_ok-tell_again.ensures
