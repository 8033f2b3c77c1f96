use Rattle.std.specs.Map.{values_of}
use Rattle.asl_check.proofs.InOrder.{AreTasksOrdered}
use Rattle.asl_check.proofs.ordered.names_in_order.Given as goal

-- where the shapes of the tasks left are in order, those of all tasks are
abbrev pub invariant-loop-task : goal.invariant-loop-task
invariant-loop-task l = AreTasksOrdered l.task-iterator → AreTasksOrdered (values_of l.declared.tasks.entries)
