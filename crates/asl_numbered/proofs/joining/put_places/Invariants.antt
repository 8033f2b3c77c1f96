use Rattle.std.proofs.Common.{◌≡◌, ◌++◌, ◌≤◌, drop, length}
use Rattle.asl_numbered.specs.Joins.{place_joinings}
use Rattle.asl_numbered.proofs.joining.put_places.Given as goal

abbrev pub invariant-loop-index : goal.invariant-loop-index
invariant-loop-index l =
    (l.tasks.items ≡ l.initial.tasks.items ++ place_joinings (drop l.index l.places) (drop l.index l.others))
    × (l.index ≤ length l.places) × (l.index ≤ length l.others)

abbrev pub decreases-loop-index : goal.decreases-loop-index
decreases-loop-index l = l.index
