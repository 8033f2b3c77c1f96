use Rattle.std.proofs.Common.{length}
use Rattle.asl_streams.proofs.Fielded.{Begun}
use Rattle.asl_streams.proofs.fields.next_fields.Given as goal

abbrev pub invariant-fields : goal.invariant-fields
invariant-fields l = Begun l.several l.initial.tokens l.shapes l.tokens l.fields

abbrev pub decreases-fields : goal.decreases-fields
decreases-fields l = length l.tokens
