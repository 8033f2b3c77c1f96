use Rattle.asl_warnings.specs.Notices.{unled_in}
use Rattle.asl_warnings.proofs.Told.{TellsBelow}
use Rattle.asl_warnings.proofs.finding.Finder.find.Given as goal

abbrev pub invariant-loop-number : goal.invariant-loop-number
invariant-loop-number l = TellsBelow l.self.machine.now l.number (unled_in l.notices.items)
