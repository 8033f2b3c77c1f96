use Rattle.std.proofs.Common.{◌≡◌, ◌++◌, drop, string_bytes}
use Rattle.asl_model.specs.PathSpelling.{printed_path, printed_segments}
use Rattle.asl_path.specs.View.{segments_view}
use Rattle.asl_path.proofs.printing.print.Given as goal

abbrev pub invariant-loop-segment : goal.invariant-loop-segment
invariant-loop-segment l = printed_path l.path ≡ string_bytes l.text ++ printed_segments (segments_view (drop l.segment-index l.segment-items))
