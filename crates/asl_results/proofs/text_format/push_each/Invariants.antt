use Rattle.std.proofs.Common.{◌≡◌, ◌++◌, drop, string_bytes}
use Rattle.std.specs.List.{flat_map}
use Rattle.asl_results.specs.Text.{named_suite}
use Rattle.asl_results.proofs.text_format.push_each.Given as goal

-- what is written, and then the suites that are left, are the whole
abbrev pub invariant-loop-suite : goal.invariant-loop-suite
invariant-loop-suite l =
    string_bytes l.text ++ flat_map named_suite (drop l.suite-index l.suites)
    ≡ string_bytes l.fn.text ++ flat_map named_suite l.suites
