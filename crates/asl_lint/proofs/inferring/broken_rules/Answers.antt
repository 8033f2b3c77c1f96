use Rattle.std.proofs.Common.{map, ap, ◌∙◌}
use Rattle.asl_problems.specs.Told.{of_finding}
use Rattle.asl_lint.proofs.inferring.broken_rules.Goals as goal

pub returns-clause-told : goal.returns-clause-told
returns-clause-told c = c.in_ok-problems.ensures ∙ ap (map of_finding) c.in_ok-findings.ensures.listed
