use Rattle.std.proofs.Common.{◌≡◌, ◌++◌, drop, string_bytes}
use Rattle.std.specs.List.{flat_map}
use Rattle.asl_results.specs.Junit.{case_element}
use Rattle.asl_results.proofs.junit_format.push_cases.Given as goal

-- what is written, and then the cases that are left, are the whole
abbrev pub invariant-loop-case : goal.invariant-loop-case
invariant-loop-case l =
    string_bytes l.text ++ flat_map (case_element l.suite) (drop l.case-index l.cases)
    ≡ string_bytes l.fn.text ++ flat_map (case_element l.suite) l.cases
