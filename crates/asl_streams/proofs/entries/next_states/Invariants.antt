use Rattle.std.proofs.Common.{length}
use Rattle.asl_streams.proofs.Streams.{States}
use Rattle.asl_streams.proofs.entries.next_states.Given as goal

abbrev pub invariant-states : goal.invariant-states
invariant-states l = States l.reader.several l.reader.listed l.initial.shapes l.levels l.initial.tokens l.shapes l.tokens l.states.entries

abbrev pub decreases-states : goal.decreases-states
decreases-states l = length l.tokens
