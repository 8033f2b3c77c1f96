use Rattle.std.proofs.Common.{◌≡◌, ◌++◌, map, Some}
use Rattle.asl_problems.specs.Told.{records_told}
use Rattle.asl_problems.specs.Told.{told_by}
use Rattle.asl_problems.proofs.complaints.problems_of_records.Given as goal

-- what is told so far, and what the refusals left tell, is what all refusals tell
abbrev pub invariant-loop-refusal : goal.invariant-loop-refusal
invariant-loop-refusal l =
    records_told l.fn.refusals.items ≡ map (λ problem. Some (told_by problem)) l.problems.items ++ records_told l.refusal-iterator.rest.items
