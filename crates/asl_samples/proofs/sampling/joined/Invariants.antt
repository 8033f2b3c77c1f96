use Rattle.std.proofs.Common.{◌≡◌, ◌<◌, drop, length, map}
use Rattle.asl_model.specs.ShapeFlow.{literal}
use Rattle.asl_numbered.specs.Expansion.{shape_at}
use Rattle.asl_tree.specs.View.{view}
use Rattle.asl_samples.specs.Samples.{joined_with}
use Rattle.asl_samples.proofs.sampling.joined.Given as goal

abbrev pub invariant-loop-sample : goal.invariant-loop-sample
invariant-loop-sample l =
    (joined_with (literal (view l.first)) (map view l.others) ≡ joined_with (shape_at l.shapes l.number) (map view (drop l.sample-index l.others)))
    × (l.number < length l.shapes)
