use Rattle.std.specs.Slice.Iter.{iter_rest}
use Rattle.asl_numbered.proofs.Parts.{AreJoinedSoFar}
use Rattle.asl_numbered.proofs.joining.join_fields.Given as goal

abbrev pub invariant-loop-name : goal.invariant-loop-name
invariant-loop-name l = AreJoinedSoFar l.fields.entries l.others.entries l.more l.parts l.name-iterator (iter_rest l.left) l.joined.entries
