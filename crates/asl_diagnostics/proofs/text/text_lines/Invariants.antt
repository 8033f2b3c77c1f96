use Rattle.std.proofs.Common.{◌≡◌, ◌++◌, drop, string_bytes}
use Rattle.asl_diagnostics.specs.Line.{text_lines}
use Rattle.asl_diagnostics.proofs.text.text_lines.Given as goal

-- the lines are those so far and those of the diagnostics left
abbrev pub invariant-loop-diagnostic : goal.invariant-loop-diagnostic
invariant-loop-diagnostic l =
    text_lines l.diagnostics ≡ string_bytes l.text ++ text_lines (drop l.diagnostic-index l.diagnostics)
