use Rattle.std.proofs.Common.{◌∙◌}
use Rattle.asl_model.specs.RecordShapes.{HoldsForTask}
use Rattle.asl_model.specs.Written.{written_task}
use Rattle.asl_records.specs.View.{task_view}
use Rattle.asl_records.specs.Writing.{IsSpelled}
use Rattle.asl_records.proofs.Writings.{begun, gone_on, all_written, all_hold}
use Rattle.asl_records.proofs.writing.write_tasks.Goals as goal
use Rattle.std.specs.String.{string_bytes}

pub loop-name-init : goal.loop-name-init
loop-name-init c = begun string_bytes task_view written_task (HoldsForTask IsSpelled) c.args.tasks.now.entries c.into_iter-name-iterator.result c.new-entries.result.entries (c.into_iter-name-iterator.ensures.into_iter_gives ∙ c.iter-name-items.ensures.rest) c.new-entries.ensures.empty

pub loop-name-preserved : goal.loop-name-preserved
loop-name-preserved c =
    gone_on string_bytes task_view written_task (HoldsForTask IsSpelled) c.args.tasks.now.entries c.loop-name.name-iterator c.next.new.self c.loop-name.entries.entries c.insert.new.self.entries (c.in-Some.name.now, c.in-Some.task.now) c.in_ok-key.key c.in_ok-write_task.field-0 c.loop-name.invariant c.in-Some.ensures.steps c.iter-name-items.ensures.ordered c.in_ok-key.ensures.cases c.in_ok-write_task.ensures.written c.in_ok-write_task.ensures.spelled c.in_ok-insert.ensures.entries

pub returns-clause-written : goal.returns-clause-written
returns-clause-written c = all_written string_bytes task_view written_task (HoldsForTask IsSpelled) c.args.tasks.now.entries c.loop-name.name-iterator c.loop-name.entries.entries c.loop-name.invariant c.in-None.ensures.steps.0

pub returns-clause-spelled : goal.returns-clause-spelled
returns-clause-spelled c = record { spelled = all_hold string_bytes task_view written_task (HoldsForTask IsSpelled) c.args.tasks.now.entries c.loop-name.name-iterator c.loop-name.entries.entries c.loop-name.invariant c.in-None.ensures.steps.0 }
