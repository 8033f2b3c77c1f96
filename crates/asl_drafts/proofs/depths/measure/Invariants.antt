use Rattle.std.proofs.Common.{◌≡◌, length}
use Rattle.asl_drafts.specs.Depths.{AreDepths}
use Rattle.asl_drafts.proofs.depths.measure.Given as goal

abbrev pub invariant-loop-number : goal.invariant-loop-number
invariant-loop-number l = AreDepths l.shapes l.depths.items × (l.number ≡ length l.depths.items)
