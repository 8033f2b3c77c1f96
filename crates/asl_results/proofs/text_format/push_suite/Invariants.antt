use Rattle.std.proofs.Common.{◌≡◌, ◌++◌, drop, string_bytes}
use Rattle.std.specs.List.{flat_map}
use Rattle.asl_results.specs.Text.{case_line}
use Rattle.asl_results.proofs.text_format.push_suite.Given as goal

-- what is written, and then the lines of the cases that are left, are those of all cases
abbrev pub invariant-loop-case : goal.invariant-loop-case
invariant-loop-case l =
    string_bytes l.text ++ flat_map case_line (drop l.case-index l.case-items)
    ≡ string_bytes l.fn.text ++ flat_map case_line l.case-items
