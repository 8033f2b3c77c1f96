use Rattle.std.proofs.Common.{◌≡◌, ◌++◌, drop, string_bytes}
use denote.Shadow.{shadow}
use denote.Text.{Utf8}
use Rattle.asl_model.specs.Intrinsic.{cut_at_holes, holes_filled}
use Rattle.asl_intrinsic.specs.Answer.{values_view}
use Rattle.asl_intrinsic.proofs.functions.fill_text.Given as goal

abbrev pub invariant-loop-value : goal.invariant-loop-value
invariant-loop-value l =
    shadow (Utf8 l.rest)
    × (holes_filled (cut_at_holes l.text).first (cut_at_holes l.text).after_holes (values_view l.values)
    ≡ holes_filled (string_bytes l.filled ++ (cut_at_holes l.rest).first) (cut_at_holes l.rest).after_holes (values_view (drop l.value-index l.values)))
