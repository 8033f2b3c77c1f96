use Rattle.std.proofs.Common.{map, take}
use Rattle.asl_warnings.specs.Adding.{Adds}
use Rattle.asl_warnings.specs.Led.{caught_by}
use Rattle.asl_warnings.proofs.marks.Marks.mark_catchers.Given as goal

abbrev pub invariant-loop-catcher : goal.invariant-loop-catcher
invariant-loop-catcher l = Adds l.initial.self l.self (map caught_by (take l.catcher-index l.catchers))
