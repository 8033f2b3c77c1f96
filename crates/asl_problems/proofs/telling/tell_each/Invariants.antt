use Rattle.std.proofs.Common.{◌≡◌, ◌++◌, map}
use Rattle.asl_problems.specs.Told.{told_by, told_of}
use Rattle.asl_problems.proofs.telling.tell_each.Given as goal

-- what is told so far, and what the problems left tell, is what all problems tell
abbrev pub invariant-loop-problem : goal.invariant-loop-problem
invariant-loop-problem l =
    map told_by l.fn.problems.items ≡ map told_of l.diagnostics.items ++ map told_by l.problem-iterator.rest.items
