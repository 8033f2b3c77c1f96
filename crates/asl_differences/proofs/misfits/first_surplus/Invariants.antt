use Rattle.asl_differences.proofs.Fields.{IsAsFar}
use Rattle.asl_differences.proofs.misfits.first_surplus.Given as goal

abbrev pub invariant-loop-name : goal.invariant-loop-name
invariant-loop-name l = IsAsFar l.members.entries l.members.entries l.name-iterator l.name-iterator
