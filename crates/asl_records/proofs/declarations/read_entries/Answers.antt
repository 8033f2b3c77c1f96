use Rattle.std.proofs.Common.{rules}
use Rattle.asl_model.specs.Records.{declared_reading, task_rows, task_from}
use Rattle.asl_records.specs.Proper.{IsProperTask}
use Rattle.asl_records.specs.View.{task_view}
use Rattle.asl_records.proofs.Entries.{Stated, begun, gone_on, next_told, none_wrong, all_read}
use Rattle.asl_records.proofs.Properness.{none_proper, one_more_proper}
use Rattle.asl_records.proofs.Telling.{handed_on}
use Rattle.asl_records.proofs.declarations.read_entries.Goals as goal

pub loop-name-init : goal.loop-name-init
loop-name-init c = record { reads = begun declared_reading task_view task_rows task_from c.args.entries.now.entries _ c.new-tasks.result.entries (search rules) c.new-tasks.ensures.empty; proper = none_proper IsProperTask c.new-tasks.result.entries c.new-tasks.ensures.empty }

pub returns-in_err-shapes-clause-refused : goal.returns-in_err-shapes-clause-refused
returns-in_err-shapes-clause-refused c =
    let e : Stated = (c.in-Some.name.now, c.in-Some.task.now) in
    let f = c.in_err-shapes.field-0.0 in
    handed_on c.from_residual.result f _ c.from_residual.ensures.1
    (next_told declared_reading task_view task_rows task_from c.args.entries.now.entries c.loop-name.name-iterator c.next.new.self c.loop-name.tasks.entries e c.deref.result.now f c.loop-name.invariant.reads c.in-Some.ensures.steps c.deref.ensures c.in_err-shapes.ensures.refused)

pub loop-name-preserved : goal.loop-name-preserved
loop-name-preserved c =
    let e : Stated = (c.in-Some.name.now, c.in-Some.task.now) in
    record {
      reads = gone_on declared_reading task_view task_rows task_from c.args.entries.now.entries c.loop-name.name-iterator c.next.new.self c.loop-name.tasks.entries c.insert.new.self.entries e c.in_ok-key.key c.deref.result.now c.in_ok-shapes.shapes c.loop-name.invariant.reads c.in-Some.ensures.steps c.iter-name-items.ensures.ordered c.in_ok-key.ensures.cases c.deref.ensures c.in_ok-shapes.ensures.right c.in_ok-shapes.ensures.shapes c.in_ok-insert.ensures.entries;
      proper = one_more_proper IsProperTask c.loop-name.tasks.entries c.insert.new.self.entries c.in_ok-key.key c.in_ok-shapes.shapes c.loop-name.invariant.proper c.in_ok-shapes.ensures.proper c.in_ok-insert.ensures.entries;
    }

pub returns-clause-right : goal.returns-clause-right
returns-clause-right c = none_wrong declared_reading task_view task_rows task_from c.args.entries.now.entries c.loop-name.name-iterator c.loop-name.tasks.entries c.loop-name.invariant.reads c.in-None.ensures.steps.0

pub returns-clause-tasks : goal.returns-clause-tasks
returns-clause-tasks c = all_read declared_reading task_view task_rows task_from c.args.entries.now.entries c.loop-name.name-iterator c.loop-name.tasks.entries c.loop-name.invariant.reads c.in-None.ensures.steps.0
