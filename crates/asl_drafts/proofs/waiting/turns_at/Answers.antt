use Rattle.std.proofs.Common.{arith}
use Rattle.std.proofs.lemmas.Grind.{common_steps}
use Rattle.std.proofs.lemmas.Option.{gets}
use Rattle.asl_drafts.proofs.Turns.{more-turns}
use Rattle.asl_drafts.proofs.waiting.turns_at.Goals as goal

pub loop-place-preserved : goal.loop-place-preserved
loop-place-preserved c =
    more-turns c.args.places.now c.loop-place.place-index _ c.loop-place.turns c.insert.new.self c.loop-place.invariant (grind (arith, common_steps, gets)) c.in_ok-insert.ensures.updates
