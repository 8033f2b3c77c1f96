use Rattle.asl_records.specs.View.{declared_view, task_view}
use Rattle.asl_check.proofs.TaskNumbers.{any_numbered, task_numbered}
use Rattle.asl_check.proofs.tasks.number_task.Goals as goal

pub returns-in_ok-gives-in-Some-clause-numbered : goal.returns-in_ok-gives-in-Some-clause-numbered
returns-in_ok-gives-in-Some-clause-numbered c =
    task_numbered c.add.new.self (declared_view c.args.declared.now) c.args.name.now c.add-in-Some.new.self (task_view c.in-Some.task.now) _ _ c.in-Some.ensures c.in_ok-takes-in-Some.ensures.number c.in_ok-gives-in-Some.ensures.keeps c.in_ok-gives-in-Some.ensures.number

pub returns-in_ok-any-in-None-clause-numbered : goal.returns-in_ok-any-in-None-clause-numbered
returns-in_ok-any-in-None-clause-numbered c =
    any_numbered c.add-in-None.new.self (declared_view c.args.declared.now) c.args.name.now _ c.in-None.ensures c.in_ok-any-in-None.ensures.number
