use Rattle.std.proofs.Common.{◌≡◌, drop, length}
use Rattle.asl_model.specs.ShapeFlow.{all_formattable}
use Rattle.asl_numbered.specs.Expansion.{shapes_at, AreBelow}
use Rattle.asl_flow.proofs.calls.all_formattable.Given as goal

abbrev pub invariant-loop-number : goal.invariant-loop-number
invariant-loop-number l =
    (all_formattable (shapes_at l.shapes l.numbers) ≡ all_formattable (shapes_at l.shapes (drop l.number-index l.numbers)))
    × AreBelow (length l.shapes) (drop l.number-index l.numbers)
