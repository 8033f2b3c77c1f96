use Rattle.std.proofs.Common.{length}
use Rattle.asl_streams.proofs.Declaring.{Tasks}
use Rattle.asl_streams.proofs.declarations.next_entries.Given as goal

abbrev pub invariant-tasks : goal.invariant-tasks
invariant-tasks l = Tasks l.levels l.initial.tokens l.tokens l.tasks.entries

abbrev pub decreases-tasks : goal.decreases-tasks
decreases-tasks l = length l.tokens
