use Rattle.std.proofs.Common.{◌≡◌, drop}
use Rattle.asl_model.specs.ShapeFlow.{look_at}
use Rattle.asl_path.specs.View.{segments_view}
use Rattle.asl_shape.specs.View.{view}
use Rattle.asl_shape_paths.specs.Counting.{counted_on}
use Rattle.asl_shape_paths.proofs.looking.find_shape.Given as goal

-- what the whole path leads to is what the segments left lead to from here, with refusals counted on
abbrev pub invariant-loop-at : goal.invariant-loop-at
invariant-loop-at l = look_at l.path (view l.shape) ≡ counted_on l.at (look_at (segments_view (drop l.at l.segment-items)) (view l.node))
