use Rattle.std.proofs.Common.{◌+◌, ◌-◌, ◌*◌, length}
use Rattle.asl_run.proofs.Counted.{AreCounted}
use Rattle.asl_run.proofs.enabling.+count_places.Given as goal

abbrev pub decreases-count_places : goal.decreases-count_places
decreases-count_places l = 2 * (length l.nodes.now - l.number.0)

abbrev pub decreases-count_places_below : goal.decreases-count_places_below
decreases-count_places_below l = 2 * (length l.nodes.now - l.children.first.0) + 1

abbrev pub invariant-count_places_below-loop-number : goal.invariant-count_places_below-loop-number
invariant-count_places_below-loop-number l = AreCounted l.nodes l.children l.number l.counted
