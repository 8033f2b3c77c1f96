use Rattle.std.proofs.lemmas.Result.{IfOk-weaker}
use Rattle.asl_records.specs.View.{declared_view, task_view}
use Rattle.asl_ways.proofs.Walking.{any_gives, task_gives}
use Rattle.asl_ways.proofs.leaving.number_given.Goals as goal

pub returns-in-Some-clause-within : goal.returns-in-Some-clause-within
returns-in-Some-clause-within c = IfOk-weaker c.add.result _ _ (λ n is. is.within) c.add.ensures.number

pub returns-in-Some-clause-gives : goal.returns-in-Some-clause-gives
returns-in-Some-clause-gives c = IfOk-weaker c.add.result _ _ (λ n is. task_gives c.add.new.self (declared_view c.args.declared.now) c.args.name.now (task_view c.in-Some.task.now) n c.in-Some.ensures is) c.add.ensures.number

pub returns-in-None-clause-within : goal.returns-in-None-clause-within
returns-in-None-clause-within c = IfOk-weaker c.add-in-None.result _ _ (λ n is. is.within) c.add-in-None.ensures.number

pub returns-in-None-clause-gives : goal.returns-in-None-clause-gives
returns-in-None-clause-gives c = IfOk-weaker c.add-in-None.result _ _ (λ n is. any_gives c.add-in-None.new.self (declared_view c.args.declared.now) c.args.name.now n c.in-None.ensures is) c.add-in-None.ensures.number
