use Rattle.std.proofs.Common.{◌≡◌}
use Rattle.asl_numbered.specs.Comparison.{mentions_fit_in}
use Rattle.asl_numbered.proofs.comparing.mentions_fit.Given as goal

abbrev pub invariant-loop-name : goal.invariant-loop-name
invariant-loop-name l =
    mentions_fit_in l.table l.inner.entries l.more l.outer.entries
    ≡ mentions_fit_in l.table l.inner.entries l.more l.name-iterator
