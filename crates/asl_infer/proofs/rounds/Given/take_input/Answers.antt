use Rattle.std.proofs.lemmas.Result.{IfOk-weaker}
use Rattle.asl_infer.specs.Rounds.{declared_in, table_in}
use Rattle.asl_infer.proofs.CalmStates.{taken-calm}
use Rattle.asl_infer.proofs.rounds.Given.take_input.Goals as goal

pub take-requires : goal.take-requires
take-requires c = c.requires.given.input.within

pub returns-in-Some-clause-calm : goal.returns-in-Some-clause-calm
returns-in-Some-clause-calm c = IfOk-weaker c.take.result _ _ (λ changed each. taken-calm (table_in c.args.self.now) (declared_in c.args.self.now) c.args.walker.now c.take.new.self c.take.ensures.waits (λ row. each (table_in c.args.self.now) (declared_in c.args.self.now) row) c.requires.calm) c.take.ensures.calm
