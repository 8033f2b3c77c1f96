use Rattle.std.proofs.Common.{◌≡◌}
use Rattle.asl_problems.specs.Told.{errors_of}
use Rattle.asl_problems.proofs.warnings.add_each.Given as goal

-- the errors are as before
abbrev pub invariant-loop-notice : goal.invariant-loop-notice
invariant-loop-notice l = errors_of l.problems.items ≡ errors_of l.fn.problems.items
