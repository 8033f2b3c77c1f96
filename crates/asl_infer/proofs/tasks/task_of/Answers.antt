use Rattle.asl_records.specs.View.{declared_view}
use Rattle.asl_infer.proofs.Declared.{none_under, task_known, task_unknown}
use Rattle.asl_infer.proofs.tasks.task_of.Goals as goal

pub returns-in_ok-add-in-Some-2-clause-task : goal.returns-in_ok-add-in-Some-2-clause-task
returns-in_ok-add-in-Some-2-clause-task c = task_known (declared_view c.args.declared.now) c.args.name.now c.task.result c.in-Some.task c.add.new.self c.add-in-Some.new.self c.in_ok-add-in-Some.field-0 c.in_ok-add-in-Some-2.field-0 c.task.ensures c.in-Some.is c.in_ok-add-in-Some.ensures.number c.in_ok-add-in-Some-2.ensures.keeps c.in_ok-add-in-Some-2.ensures.number

pub returns-in_ok-any-in-None-clause-task : goal.returns-in_ok-any-in-None-clause-task
returns-in_ok-any-in-None-clause-task c = task_unknown (declared_view c.args.declared.now) c.args.name.now c.put.new.self c.in_ok-any-in-None.any (none_under (declared_view c.args.declared.now) c.args.name.now c.task.result c.task.ensures c.in-None.is) c.in_ok-any-in-None.ensures.number
