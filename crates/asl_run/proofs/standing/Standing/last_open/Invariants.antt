use Rattle.std.proofs.Common.{◌-◌, length}
use Rattle.asl_run.proofs.LastOpen.{last_in}
use Rattle.asl_run.proofs.OnTheWay.{IsOnTheWay}
use Rattle.asl_run.proofs.standing.Standing.last_open.Given as goal

abbrev pub invariant-loop-children : goal.invariant-loop-children
invariant-loop-children l = IsOnTheWay last_in l.self l.place.items l.here.0

abbrev pub decreases-loop-children : goal.decreases-loop-children
decreases-loop-children l = length l.self - l.here.0
