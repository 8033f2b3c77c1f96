use Rattle.std.specs.Iterator.Adapters.{rev_source}
use Rattle.asl_numbered.proofs.Parts.{AreAddedSoFar}
use Rattle.asl_numbered.proofs.joining.add_others.Given as goal

abbrev pub invariant-loop-name : goal.invariant-loop-name
invariant-loop-name l = AreAddedSoFar l.fields.entries l.extra l.others.entries (rev_source l.name-iterator) l.initial.joined.entries l.joined.entries
