use Rattle.std.proofs.Common.{length}
use Rattle.asl_machine.proofs.Repeated.{Behind}
use Rattle.asl_machine.proofs.repeating.find_repeated.Given as goal

abbrev pub invariant-loop-name : goal.invariant-loop-name
invariant-loop-name l = Behind l.fn.names.items l.left.items l.further l.repeated.items

abbrev pub decreases-loop-name : goal.decreases-loop-name
decreases-loop-name l = length l.left.items
