use Rattle.std.proofs.Common.{◌≡◌, ◌≤◌, length, option_map, string_bytes}
use denote.Shadow.{shadow}
use denote.Text.{Utf8}
use Rattle.asl_model.specs.CallSpelling.{cut_pieces}
use Rattle.asl_intrinsic.specs.Cutting.{bytes_in_front}
use Rattle.asl_intrinsic.proofs.literal.cut_piece.Given as goal

abbrev pub invariant-loop-shown : goal.invariant-loop-shown
invariant-loop-shown l = shadow (Utf8 l.rest) × (cut_pieces l.text ≡ option_map (bytes_in_front (string_bytes l.piece)) (cut_pieces l.rest)) × (length l.rest ≤ length l.text)

abbrev pub decreases-loop-shown : goal.decreases-loop-shown
decreases-loop-shown l = length l.rest
