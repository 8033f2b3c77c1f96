use Rattle.std.proofs.Common.{◌↔◌, drop}
use Rattle.asl_numbered.specs.Expansion.{AreBelow}
use Rattle.asl_causes.proofs.walking.are_below.Given as goal

abbrev pub invariant-loop-number : goal.invariant-loop-number
invariant-loop-number l = AreBelow l.bound l.numbers ↔ AreBelow l.bound (drop l.number-index l.numbers)
