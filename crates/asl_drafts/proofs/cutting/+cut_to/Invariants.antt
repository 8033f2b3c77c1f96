use Rattle.std.proofs.Common.{◌+◌, ◌*◌, take}
use Rattle.asl_numbered.specs.Expansion.{Keeps}
use Rattle.asl_drafts.specs.Cuts.{AreCutTo}
use Rattle.asl_drafts.proofs.cutting.+cut_to.Given as goal

abbrev pub decreases-cut_to : goal.decreases-cut_to
decreases-cut_to l = 2 * l.levels

abbrev pub decreases-cut_each : goal.decreases-cut_each
decreases-cut_each l = 2 * l.levels + 1

abbrev pub invariant-cut_each-loop-number : goal.invariant-cut_each-loop-number
invariant-cut_each-loop-number l =
    Keeps l.initial.store l.store
    × AreCutTo l.levels l.initial.store (take l.number-index l.numbers) l.store l.cuts.items
