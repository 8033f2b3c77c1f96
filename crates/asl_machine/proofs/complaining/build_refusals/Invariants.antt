use Rattle.std.proofs.Common.{◌≡◌, map, take}
use Rattle.asl_fields.specs.Verdicts.{complaint_view}
use Rattle.asl_fields.specs.View.{refusal_view}
use Rattle.asl_machine.proofs.complaining.build_refusals.Given as goal

abbrev pub invariant-loop-complaint : goal.invariant-loop-complaint
invariant-loop-complaint l = map refusal_view l.refusals.items ≡ map complaint_view (take l.complaint-index l.told)
