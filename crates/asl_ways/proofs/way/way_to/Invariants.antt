use Rattle.asl_ways.proofs.Ways.{GoesBack}
use Rattle.asl_ways.proofs.way.way_to.Given as goal

abbrev pub invariant-loop-before : goal.invariant-loop-before
invariant-loop-before l = GoesBack l.visits l.last l.place l.way.items

abbrev pub decreases-loop-before : goal.decreases-loop-before
decreases-loop-before l = l.place
