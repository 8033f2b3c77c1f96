use Rattle.asl_warnings.specs.Notices.{KeepsUnled}
use Rattle.asl_warnings.proofs.noting.note_catchers.Given as goal

abbrev pub invariant-loop-index : goal.invariant-loop-index
invariant-loop-index l = KeepsUnled l.initial.notices.items l.notices.items
