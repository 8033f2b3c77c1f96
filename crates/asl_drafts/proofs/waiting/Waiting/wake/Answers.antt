use Rattle.std.proofs.Common.{true, arith}
use Rattle.std.proofs.lemmas.Grind.{common_steps}
use Rattle.std.proofs.lemmas.Option.{gets}
use Rattle.asl_drafts.proofs.Turns.{changed}
use Rattle.asl_drafts.proofs.waiting.Waiting.wake.Goals as goal

pub invariant_of-self-2 : goal.invariant_of-self-2
invariant_of-self-2 c =
    let w = c.args.self.now in
    record { queued = changed w.order.items w.places.items w.waits.items w.turns c.insert.new.self c.args.number _ (grind (arith, common_steps, gets)) w.queued true c.in_ok-insert.ensures.updates }
