use Rattle.std.proofs.Common.{◌≡◌, ◌<◌, drop, length}
use Rattle.asl_model.specs.ShapeFlow.{look_at}
use Rattle.asl_path.specs.View.{segments_view}
use Rattle.asl_shape_paths.specs.Counting.{counted_on}
use Rattle.asl_numbered.specs.Expansion.{shape_at}
use Rattle.asl_shape_paths.proofs.parts.find_part.Given as goal

-- what the whole path leads to is what the segments left lead to from here, with refusals counted on
abbrev pub invariant-loop-at : goal.invariant-loop-at
invariant-loop-at l =
    (l.part < length l.shapes)
    × (look_at l.path (shape_at l.shapes l.number) ≡ counted_on l.at (look_at (segments_view (drop l.at l.segment-items)) (shape_at l.shapes l.part)))
