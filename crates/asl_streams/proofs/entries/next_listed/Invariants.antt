use Rattle.std.proofs.Common.{length}
use Rattle.asl_streams.proofs.Lists.{Lists}
use Rattle.asl_streams.proofs.entries.next_listed.Given as goal

abbrev pub invariant-listed : goal.invariant-listed
invariant-listed l = Lists l.several l.initial.shapes l.levels l.initial.tokens l.shapes l.tokens l.numbers.items

abbrev pub decreases-listed : goal.decreases-listed
decreases-listed l = length l.tokens
