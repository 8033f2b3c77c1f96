use Rattle.std.proofs.Common.{map, take}
use Rattle.asl_warnings.specs.Adding.{Adds}
use Rattle.asl_warnings.specs.Led.{number_of}
use Rattle.asl_warnings.proofs.marks.Marks.mark_branches.Given as goal

abbrev pub invariant-loop-start : goal.invariant-loop-start
invariant-loop-start l = Adds l.initial.self l.self (map number_of (take l.start-index l.branches))
