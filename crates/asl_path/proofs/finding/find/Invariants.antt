use Rattle.std.proofs.Common.{◌≡◌, drop}
use Rattle.asl_model.specs.Path.{named_by}
use Rattle.asl_path.specs.View.{segments_view}
use Rattle.asl_tree.specs.View.{view}
use Rattle.asl_path.proofs.finding.find.Given as goal

abbrev pub invariant-loop-segment : goal.invariant-loop-segment
invariant-loop-segment l = named_by l.path (view l.tree) ≡ named_by (segments_view (drop l.segment-index l.segment-items)) (view l.node)
