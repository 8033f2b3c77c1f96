use Rattle.std.proofs.Common.{arith, ◌≡◌, ◌∷◌, ◌+◌, ap, drop, map, sym, ◌∙◌}
use Rattle.std.proofs.lemmas.Grind.{common_steps}
use Rattle.asl_shape.proofs.Merging.{with_next}
use Rattle.asl_shape.specs.Kinds.{kinds_view}
use Rattle.asl_shape.specs.View.{view, merged, with_kinds}
use Rattle.asl_shape.proofs.kinds.+take_apart.Goals as goal

pub take_each_apart-loop-part-preserved : goal.take_each_apart-loop-part-preserved
take_each_apart-loop-part-preserved t c =
    let l = c.loop-part in
    let i = l.part-index in
    let parts = c.args.parts.now in
    let part = c.part-item.result in
    let split : drop i parts ≡ part ∷ drop (i + 1) parts = grind (arith, common_steps) in
    let next = with_next (kinds_view l.kinds) (kinds_view c.in-Some.taken) (drop i parts) (drop (i + 1) parts) part split c.in-Some.ensures.shown in
    l.invariant ∙ next ∙ sym (ap (λ s. with_kinds s (merged (map view (drop (i + 1) parts)))) c.both-kinds.ensures)
