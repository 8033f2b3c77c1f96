use Rattle.std.proofs.Common.{sym}
use Rattle.asl_numbered.proofs.Comparisons.{right_found}
use Rattle.asl_numbered.proofs.comparing.known.Goals as goal

pub returns-in-Some : goal.returns-in-Some
returns-in-Some c = record {
  right = λ table right. right_found table c.args.compared.now.entries c.args.pair c.in-Some.answer.now right (sym c.in-Some.ensures.value);
}
