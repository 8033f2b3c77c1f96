use Rattle.std.proofs.Common.{◌≡◌, ◌++◌, ◌≤◌, drop, length, ◌⊎◌}
use Rattle.asl_numbered.specs.Joins.{joinings_with}
use Rattle.asl_numbered.proofs.joining.put_behind.Given as goal

abbrev pub invariant-loop-index : goal.invariant-loop-index
invariant-loop-index l =
    (l.tasks.items ≡ l.initial.tasks.items ++ joinings_with (drop l.index l.places))
    × (l.index ≤ length l.places) × ((l.start ≤ l.index) ⊎ (l.index ≡ length l.places))

abbrev pub decreases-loop-index : goal.decreases-loop-index
decreases-loop-index l = l.index
