use Rattle.std.proofs.Common.{◌≡◌, ◌+◌, [], ◌∷◌, map, drop, sym, ap, ◌∙◌, arith}
use Rattle.std.proofs.lemmas.Grind.{common_steps}
use Rattle.asl_tree.specs.View.{view}
use Rattle.asl_numbered.specs.Expansion.{shape_at}
use Rattle.asl_numbered.specs.Laws.{number_shows}
use Rattle.asl_samples.specs.Samples.{joined_with}
use Rattle.asl_samples.proofs.Joined.{joined-more}
use Rattle.asl_samples.proofs.sampling.joined.Goals as goal

pub loop-sample-init : goal.loop-sample-init
loop-sample-init c =
    let own = number_shows c.literal_shape_at.new.shapes _ c.in_ok-number.number c.in_ok-number.ensures.number in
    (ap (λ s. joined_with s (map view c.args.others.now)) (sym own.same), own.within)

pub loop-sample-preserved : goal.loop-sample-preserved
loop-sample-preserved c =
    let l = c.loop-sample in
    let i = l.sample-index in
    let others = c.args.others.now in
    let item = c.sample-item.result in
    let split : drop i others ≡ item ∷ drop (i + 1) others = grind (arith, common_steps) in
    let next = c.in_ok-number-2.ensures in
    (joined-more _ (shape_at l.shapes l.number) _ (drop i others) (drop (i + 1) others) item l.invariant.0 split next.same, next.within)

pub returns : goal.returns
returns c =
    let l = c.loop-sample in
    let none : drop l.sample-index c.args.others.now ≡ [] = grind (arith, common_steps) in
    record {
      within = l.invariant.1;
      same = sym (l.invariant.0 ∙ ap (λ ts. joined_with (shape_at l.shapes l.number) (map view ts)) none);
    }
