use Rattle.std.proofs.Common.{length}
use Rattle.asl_streams.proofs.Declaring.{TaskParts}
use Rattle.asl_streams.proofs.declarations.next_task_parts.Given as goal

abbrev pub invariant-parts : goal.invariant-parts
invariant-parts l = TaskParts l.levels l.initial.tokens l.tokens l.task

abbrev pub decreases-parts : goal.decreases-parts
decreases-parts l = length l.tokens
