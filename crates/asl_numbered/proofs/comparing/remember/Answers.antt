use Rattle.asl_numbered.proofs.Comparisons.{right_put}
use Rattle.asl_numbered.proofs.comparing.remember.Goals as goal

pub returns : goal.returns
returns c = record {
  right = λ table within is right. right_put table c.args.compared.now.entries c.insert.new.self.entries c.args.pair c.args.answer within is right c.in_ok-insert.ensures.entries;
}
