use Rattle.std.proofs.Common.{◌≡◌, take}
use Rattle.asl_results.specs.Counted.{all_cases, counts_of}
use Rattle.asl_results.proofs.counting.Counts.of_all.Given as goal

-- the counts are those of the suites so far
abbrev pub invariant-loop-suite : goal.invariant-loop-suite
invariant-loop-suite l = l.all ≡ counts_of (all_cases (take l.suite-index l.suites))
