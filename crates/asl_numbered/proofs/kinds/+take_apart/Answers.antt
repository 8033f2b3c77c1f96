use Rattle.std.proofs.Common.{◌≡◌, ◌+◌, ◌∷◌, ap, drop, map, get_or, ◌∙◌, None, refl, arith}
use Rattle.std.proofs.lemmas.Grind.{common_steps}
use Rattle.asl_numbered.specs.Expansion.{shape_at}
use Rattle.asl_numbered.specs.TakenApart.{kinds_over}
use Rattle.asl_numbered.proofs.Ascending.{next_shape}
use Rattle.asl_numbered.proofs.Tables.{none_past}
use Rattle.asl_numbered.proofs.Taking.{both_at, taken_next}
use Rattle.asl_numbered.proofs.kinds.+take_apart.Goals as goal
use Rattle.asl_numbered.specs.Laws.{below_next}

pub take_apart-returns-in-None-clause-shown : goal.take_apart-returns-in-None-clause-shown
take_apart-returns-in-None-clause-shown t c =
    ap (kinds_over c.args.table.now) c.no_kinds.ensures ∙ none_past c.args.table.now c.args.number None refl c.in-None.ensures.there

pub take_each_apart-loop-part-preserved : goal.take_each_apart-loop-part-preserved
take_each_apart-loop-part-preserved t c =
    let l = c.loop-part in
    let i = l.part-index in
    let parts = c.args.parts.now in
    let table = c.args.table.now in
    let part = get_or parts i 0 in
    let split : drop i parts ≡ part ∷ drop (i + 1) parts = grind (arith, common_steps) in
    let below = below_next c.args.bound (drop i parts) (drop (i + 1) parts) part split l.invariant.2 in (
      taken_next table (map (shape_at table) parts) _ _ (shape_at table part) l.kinds c.in_ok-take_apart.field-0 c.both-kinds.result l.invariant.0 (next_shape table parts i c.loop-part-test.true) c.in_ok-take_apart.ensures.shown c.both-kinds.ensures,
      both_at table part c.args.bound l.kinds c.in_ok-take_apart.field-0 c.both-kinds.result c.both-kinds.ensures (omega (arith, below.0)) l.invariant.1 c.in_ok-take_apart.ensures.within,
      below.1,
    )
