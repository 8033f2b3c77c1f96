use Rattle.std.proofs.Common.{◌≤◌, length, arith, subst}
use Rattle.std.proofs.lemmas.Grind.{common_steps}
use Rattle.std.proofs.lemmas.Option.{gets}
use Rattle.asl_drafts.proofs.Turns.{either-way, next-turn, no-turn, turn-behind, turns-from}
use Rattle.asl_drafts.proofs.waiting.Waiting.next.Goals as goal

pub returns-in_err-place-clause-none : goal.returns-in_err-place-clause-none
returns-in_err-place-clause-none c =
    let w = c.args.self.now in
    either-way _ (no-turn w.order.items w.places.items w.waits.items w.turns w.queued c.args.from c.range.result (c.range.ensures.in_range tt) c.in_err-place.ensures.steps.0)

pub returns-in_err-number-clause-none : goal.returns-in_err-number-clause-none
returns-in_err-number-clause-none c =
    let w = c.args.self.now in
    let first = turns-from w.turns c.args.from c.in_ok-place.field-0.now _ c.range.result (c.range.ensures.in_range tt) c.in_ok-place.ensures.steps in
    either-way _ (turn-behind w.order.items w.places.items w.waits.items w.turns w.queued c.args.from c.in_ok-place.field-0.now first (subst (λ ns. length ns ≤ c.in_ok-place.field-0.now) c.deref.ensures.value c.in_err-number.ensures.lookup.3))

pub returns-clause-first : goal.returns-clause-first
returns-clause-first c =
    let w = c.args.self.now in
    let first = turns-from w.turns c.args.from c.in_ok-place.field-0.now _ c.range.result (c.range.ensures.in_range tt) c.in_ok-place.ensures.steps in
    next-turn w.order.items w.places.items w.waits.items w.turns w.queued c.args.from c.in_ok-place.field-0.now c.in_ok-number.field-0.now first (grind (arith, common_steps, gets))
