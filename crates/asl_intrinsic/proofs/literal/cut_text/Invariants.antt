use Rattle.std.proofs.Common.{◌≡◌, length, map, string_bytes}
use denote.Shadow.{shadow}
use denote.Text.{Utf8}
use Rattle.asl_model.specs.CallSpelling.{cut_pieces}
use Rattle.asl_intrinsic.proofs.Literals.{cut_so_far}
use Rattle.asl_intrinsic.proofs.literal.cut_text.Given as goal

abbrev pub invariant-loop-end : goal.invariant-loop-end
invariant-loop-end l = shadow (Utf8 l.rest) × (cut_pieces l.text ≡ cut_so_far (string_bytes l.first) (map string_bytes l.after_holes.items) l.end l.rest)

abbrev pub decreases-loop-end : goal.decreases-loop-end
decreases-loop-end l = length l.rest
