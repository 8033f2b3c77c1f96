use Rattle.std.proofs.Common.{length}
use Rattle.asl_streams.proofs.Declaring.{Declares}
use Rattle.asl_streams.proofs.declarations.next_declarations.Given as goal

abbrev pub invariant-fields : goal.invariant-fields
invariant-fields l = Declares l.initial.tokens l.tokens l.fields

abbrev pub decreases-fields : goal.decreases-fields
decreases-fields l = length l.tokens
