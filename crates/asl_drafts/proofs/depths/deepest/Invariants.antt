use Rattle.std.proofs.Common.{◌≡◌, length, max, drop, List}
use Rattle.asl_model.specs.Shape as model
use Rattle.asl_numbered.specs.Expansion.{shapes_at, AreBelow}
use Rattle.asl_drafts.specs.Depths.{told_depth_of_elements, AreDepths}
use Rattle.asl_drafts.proofs.depths.deepest.Given as goal

abbrev pub invariant-loop-number : goal.invariant-loop-number
invariant-loop-number l =
    let left = drop l.number-index l.numbers in
    AreBelow (length l.depths) left
    × ((table : List model.Shape) → AreDepths table l.depths
    → max l.deepest (told_depth_of_elements (shapes_at table left)) ≡ told_depth_of_elements (shapes_at table l.numbers))
