use Rattle.std.proofs.Common.{◌≡◌, map, take}
use Rattle.asl_drafts.proofs.entries.numbers_of.Given as goal

abbrev pub invariant-loop-growing : goal.invariant-loop-growing
invariant-loop-growing l = l.numbers.items ≡ map (λ g. g.number) (take l.growing-index l.shapes)
