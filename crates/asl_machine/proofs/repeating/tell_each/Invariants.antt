use Rattle.std.proofs.Common.{length, map}
use Rattle.asl_fields.specs.Verdicts.{complaint_view}
use Rattle.asl_machine.specs.Telling.{from_last}
use Rattle.asl_machine.proofs.Told.{TellsOf}
use Rattle.asl_machine.proofs.repeating.tell_each.Given as goal

abbrev pub invariant-loop-name : goal.invariant-loop-name
invariant-loop-name l = TellsOf (map complaint_view l.initial.told.items) (map complaint_view l.told.items) (from_last l.fn.names.items) (from_last l.left.items)

abbrev pub decreases-loop-name : goal.decreases-loop-name
decreases-loop-name l = length l.left.items
