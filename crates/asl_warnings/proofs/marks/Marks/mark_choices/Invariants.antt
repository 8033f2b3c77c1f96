use Rattle.std.proofs.Common.{map, take}
use Rattle.asl_warnings.specs.Adding.{Adds}
use Rattle.asl_warnings.specs.Led.{chosen_by}
use Rattle.asl_warnings.proofs.marks.Marks.mark_choices.Given as goal

abbrev pub invariant-loop-choice : goal.invariant-loop-choice
invariant-loop-choice l = Adds l.initial.self l.self (map chosen_by (take l.choice-index l.choices))
