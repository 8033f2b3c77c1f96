use Rattle.asl_numbered.proofs.Joins.{joins_put}
use Rattle.asl_numbered.proofs.joining.remember.Goals as goal

pub returns : goal.returns
returns c = record {
  right = λ table within is right. joins_put table c.args.joined.now.entries c.insert.new.self.entries c.args.pair c.args.number within is right c.in_ok-insert.ensures.entries;
}
