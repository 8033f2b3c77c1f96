use Rattle.asl_numbered.specs.Expansion.{Keeps}
use Rattle.asl_numbered.specs.Joins.{joint, AreJoins, AreLeft, steps_of, found_in, work_left}
use Rattle.asl_numbered.proofs.joining.find_join.Given as goal

abbrev pub invariant-loop-task : goal.invariant-loop-task
invariant-loop-task l =
    Keeps l.initial.table l.table
    × AreJoins l.table l.joined.entries
    × AreLeft l.table (joint l.initial.table l.fn.pair) l.work.tasks.items l.work.numbers.items

abbrev pub decreases-loop-task : goal.decreases-loop-task
decreases-loop-task l = work_left (steps_of l.table l.work.tasks.items) (found_in l.table l.work.numbers.items)
