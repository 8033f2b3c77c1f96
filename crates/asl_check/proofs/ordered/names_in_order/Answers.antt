use Rattle.std.proofs.Common.{sym, subst, ◌∙◌}
use Rattle.asl_model.proofs.ShapeExample.{proper-ordered}
use Rattle.asl_check.proofs.InOrder.{AreTasksOrdered, task_ordered, tasks_ordered}
use Rattle.asl_check.proofs.ordered.names_in_order.Goals as goal

pub loop-task-init : goal.loop-task-init
loop-task-init c = λ h. subst AreTasksOrdered (c.into_iter-task-iterator.ensures.into_iter_gives ∙ c.values-task-items.ensures.rest) h

pub loop-task-preserved : goal.loop-task-preserved
loop-task-preserved c = λ h.
    c.loop-task.invariant (subst AreTasksOrdered (sym c.in-Some.ensures.steps) (task_ordered c.in-Some.task.now c.proper-in-loop-task.ensures.names c.proper-in-loop-task-2.ensures.names, h))

pub returns : goal.returns
returns c = record {
  input = proper-ordered _ c.proper.ensures.names;
  tasks = tasks_ordered c.args.declared.now.tasks.entries (c.loop-task.invariant (subst AreTasksOrdered (sym c.in-None.ensures.steps.0) tt));
}
