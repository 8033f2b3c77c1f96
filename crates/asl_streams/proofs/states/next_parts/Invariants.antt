use Rattle.std.proofs.Common.{length}
use Rattle.asl_streams.proofs.StateParts.{Parts}
use Rattle.asl_streams.proofs.states.next_parts.Given as goal

abbrev pub invariant-parts : goal.invariant-parts
invariant-parts l = Parts l.reader.several l.reader.listed l.levels l.initial.tokens l.initial.shapes l.shapes l.tokens l.entry

abbrev pub decreases-parts : goal.decreases-parts
decreases-parts l = length l.tokens
