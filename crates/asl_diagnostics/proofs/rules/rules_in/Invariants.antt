use Rattle.std.proofs.Common.{◌≡◌, [], drop}
use Rattle.asl_diagnostics.specs.Rules.{rules_after}
use Rattle.asl_diagnostics.proofs.rules.rules_in.Given as goal

-- the rules so far, and then those of the diagnostics left, are all of them
abbrev pub invariant-loop-diagnostic : goal.invariant-loop-diagnostic
invariant-loop-diagnostic l =
    rules_after l.rules.items (drop l.diagnostic-index l.diagnostics) ≡ rules_after [] l.diagnostics
