use Rattle.std.proofs.Common.{length, refl}
use Rattle.asl_endless.proofs.Reading.{goes_on}
use Rattle.asl_endless.proofs.EndlessSource.read.Goals as goal

pub returns-clause-fronts : goal.returns-clause-fronts
returns-clause-fronts c = goes_on 97 c.args.buffer.now c.fill.new.self (length c.fill.new.self) (c.fill.ensures.after (λ y same. same)) refl
