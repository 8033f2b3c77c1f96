use Rattle.std.proofs.Common.{arith}
use Rattle.std.proofs.lemmas.Grind.{common_steps}
use Rattle.asl_drafts.proofs.Turns.{all-queued}
use Rattle.asl_drafts.proofs.waiting.Waiting.new.Goals as goal

pub invariant_of-result : goal.invariant_of-result
invariant_of-result c =
    record { queued = all-queued c.args.order.items c.in_ok-places.places.items c.in_ok-waits.waits.items c.in_ok-turns.turns c.args.count c.in_ok-waits.ensures (grind (arith, common_steps)) c.in_ok-places.ensures.many (grind (arith, common_steps)) (grind (arith, common_steps)) }
