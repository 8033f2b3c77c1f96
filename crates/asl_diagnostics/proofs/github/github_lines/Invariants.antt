use Rattle.std.proofs.Common.{◌≡◌, ◌++◌, drop, string_bytes}
use Rattle.asl_diagnostics.specs.Github.{github_lines}
use Rattle.asl_diagnostics.proofs.github.github_lines.Given as goal

-- the lines are those so far and those of the diagnostics left
abbrev pub invariant-loop-diagnostic : goal.invariant-loop-diagnostic
invariant-loop-diagnostic l =
    github_lines l.diagnostics ≡ string_bytes l.text ++ github_lines (drop l.diagnostic-index l.diagnostics)
