use Rattle.std.proofs.Common.{List, drop}
use Rattle.asl_model.specs.Shape as model
use Rattle.asl_numbered.specs.Comparison.{AreOutside, AreRight}
use Rattle.asl_numbered.proofs.comparing.refuse.Given as goal

abbrev pub invariant-loop-task : goal.invariant-loop-task
invariant-loop-task l =
    (table : List model.Shape) → AreOutside table l.tasks → AreRight table l.initial.compared.entries → AreRight table l.compared.entries × AreOutside table (drop l.task-index l.tasks)
