use Rattle.std.proofs.Common.{◌≡◌, ◌++◌, drop, string_bytes}
use Rattle.std.specs.List.{flat_map}
use Rattle.asl_results.specs.Line.{coverage_text, lacking_line}
use Rattle.asl_results.proofs.coverage.push_coverage.Given as goal

-- what is written, and then the lines of what is left, are the whole
abbrev pub invariant-loop-line : goal.invariant-loop-line
invariant-loop-line l =
    string_bytes l.text ++ flat_map lacking_line (drop l.line-index l.lacking)
    ≡ string_bytes l.fn.text ++ coverage_text l.lacking
