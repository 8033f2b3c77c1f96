use Rattle.std.proofs.Common.{◌≡◌, ◌++◌, map}
use Rattle.asl_check.specs.View.{finding_view}
use Rattle.asl_problems.specs.Told.{of_finding, told_by}
use Rattle.asl_problems.proofs.findings.problems_of_findings.Given as goal

-- what is told so far, and what the findings left tell, is what all findings tell
abbrev pub invariant-loop-located : goal.invariant-loop-located
invariant-loop-located l =
    map (λ f. of_finding (finding_view f.finding)) l.fn.findings.items ≡ map told_by l.problems.items ++ map (λ f. of_finding (finding_view f.finding)) l.located-iterator.rest.items
