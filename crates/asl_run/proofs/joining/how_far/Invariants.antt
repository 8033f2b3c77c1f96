use Rattle.asl_run.proofs.Joined.{Say}
use Rattle.asl_run.proofs.joining.how_far.Given as goal

-- the children left say how far all are
abbrev pub invariant-loop-number : goal.invariant-loop-number
invariant-loop-number l = Say l.children l.number l.all_ended
