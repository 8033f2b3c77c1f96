use Rattle.std.proofs.Common.{false, arith}
use Rattle.std.proofs.lemmas.Grind.{common_steps}
use Rattle.std.proofs.lemmas.Option.{gets}
use Rattle.asl_drafts.proofs.Turns.{changed}
use Rattle.asl_drafts.proofs.waiting.Waiting.stop.Goals as goal

pub invariant_of-self : goal.invariant_of-self
invariant_of-self c =
    let w = c.args.self.now in
    record { queued = changed w.order.items w.places.items w.waits.items w.turns c.remove.new.self c.args.number _ (grind (arith, common_steps, gets)) w.queued false c.remove.ensures.updates }

pub returns-clause-told : goal.returns-clause-told
returns-clause-told c = grind (arith, common_steps, gets)
