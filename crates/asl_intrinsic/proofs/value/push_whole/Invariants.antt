use Rattle.std.proofs.Common.{◌≡◌, ◌++◌, drop, map, string_bytes}
use Rattle.asl_model.specs.Intrinsic.{joined_by_holes}
use Rattle.asl_intrinsic.proofs.value.push_whole.Given as goal

abbrev pub invariant-loop-piece : goal.invariant-loop-piece
invariant-loop-piece l =
    string_bytes l.fn.text ++ joined_by_holes (string_bytes l.pieces.first) (map string_bytes l.pieces.after_holes.items) ≡ joined_by_holes (string_bytes l.text) (map string_bytes (drop l.piece-index l.piece-items))
