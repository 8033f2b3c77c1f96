use Rattle.asl_numbered.proofs.Moving.{task_within, task_fed, left_moved, left_less}
use Rattle.asl_numbered.proofs.joining.find_join.Goals as goal
use Rattle.asl_numbered.specs.Laws.{keeps_trans}

pub perform-requires-clause-within : goal.perform-requires-clause-within
perform-requires-clause-within c = task_within _ _ _ c.pop.new.self.items c.in-Some.task _ c.in-Some.ensures.items c.loop-task.invariant.2

pub perform-requires-clause-fed : goal.perform-requires-clause-fed
perform-requires-clause-fed c = task_fed _ _ _ c.pop.new.self.items c.in-Some.task _ c.in-Some.ensures.items c.loop-task.invariant.2

pub loop-task-smaller : goal.loop-task-smaller
loop-task-smaller c = left_less _ _ _ c.pop.new.self.items c.in-Some.task _ c.in-Some.ensures.items c.loop-task.invariant.2 _ _ _ c.in_ok-perform.ensures.keeps c.in_ok-perform.ensures.moves

pub loop-task-preserved : goal.loop-task-preserved
loop-task-preserved c = (
  keeps_trans _ _ _ c.loop-task.invariant.0 c.in_ok-perform.ensures.keeps,
  c.in_ok-perform.ensures.right,
  left_moved _ _ _ c.pop.new.self.items c.in-Some.task _ c.in-Some.ensures.items c.loop-task.invariant.2 _ _ _ c.in_ok-perform.ensures.keeps c.in_ok-perform.ensures.moves,
)
