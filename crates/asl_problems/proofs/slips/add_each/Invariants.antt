use Rattle.std.proofs.Common.{◌≡◌}
use Rattle.asl_problems.specs.Told.{errors_of}
use Rattle.asl_problems.proofs.slips.add_each.Given as goal

-- the errors are as before
abbrev pub invariant-loop-slip : goal.invariant-loop-slip
invariant-loop-slip l = errors_of l.problems.items ≡ errors_of l.fn.problems.items
