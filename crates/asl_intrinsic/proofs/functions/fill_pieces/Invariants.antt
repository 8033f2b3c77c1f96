use Rattle.std.proofs.Common.{◌≡◌, drop, map, string_bytes}
use Rattle.asl_model.specs.Intrinsic.{holes_filled}
use Rattle.asl_intrinsic.specs.Answer.{values_view}
use Rattle.asl_intrinsic.proofs.functions.fill_pieces.Given as goal

abbrev pub invariant-loop-hole : goal.invariant-loop-hole
invariant-loop-hole l =
    holes_filled (string_bytes l.pieces.first) (map string_bytes l.pieces.after_holes.items) (values_view l.values) ≡ holes_filled (string_bytes l.text) (map string_bytes (drop l.hole l.pieces.after_holes.items)) (values_view (drop l.hole l.values))
