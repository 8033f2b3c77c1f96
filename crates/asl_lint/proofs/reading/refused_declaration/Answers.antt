use Rattle.std.proofs.Common.{map}
use Rattle.asl_problems.specs.Told.{told_by}
use Rattle.asl_lint.proofs.Refusals.{told_all}
use Rattle.asl_lint.proofs.reading.refused_declaration.Goals as goal

pub returns : goal.returns
returns c = λ text v reads is some. told_all text v (map told_by c.in_ok-problems.problems.items) reads (c.in_ok-problems.ensures.each v is) some
