use Rattle.asl_numbered.specs.Comparison.{width, work, AreGoing, AreRight}
use Rattle.asl_numbered.proofs.comparing.compare.Given as goal

abbrev pub invariant-loop-task : goal.invariant-loop-task
invariant-loop-task l = AreGoing l.table l.fn.pair l.tasks.items × AreRight l.table l.compared.entries

abbrev pub decreases-loop-task : goal.decreases-loop-task
decreases-loop-task l = work (width l.table) l.tasks.items
