use Rattle.asl_run.proofs.Joinable.{Decide}
use Rattle.asl_run.proofs.enabling.is_joinable.Given as goal

abbrev pub invariant-loop-child : goal.invariant-loop-child
invariant-loop-child l = Decide l.children l.child-index l.all_ended
