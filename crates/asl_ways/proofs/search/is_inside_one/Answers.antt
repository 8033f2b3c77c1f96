use Rattle.std.proofs.Common.{◌≡◌, get_or, Some, true, false, sym, ◌∙◌, subst, arith}
use mathlib.Core.Bool.{beq}
use Rattle.std.specs.Option.{option_eq}
use Rattle.std.proofs.lemmas.Bool.{false≢true}
use Rattle.asl_model.specs.Shape.{Inside, IsProperShape, inhabited}
use Rattle.asl_numbered.specs.Expansion.{shape_at}
use Rattle.asl_ways.proofs.Outside.{inside_no_more, inside_none_of_all, not_inside}
use Rattle.asl_ways.proofs.search.is_inside_one.Goals as goal

pub loop-number-preserved : goal.loop-number-preserved
loop-number-preserved c =
    let l = c.loop-number in
    let same = l.invariant.unchanged in
    let inner = c.args.inner in
    let number = get_or c.args.outer.now l.number-index _ in
    let answer = c.in_ok-sub.ensures in
    record {
      unchanged = answer.unchanged ∙ same;
      outside = λ some.
          let proper = subst (λ ns. IsProperShape (shape_at ns inner)) (sym same) (c.are_proper.ensures.proper inner) in
          let inhabited_now = subst (λ ns. inhabited (shape_at ns inner) ≡ true) (sym same) some in
          let not_in_it = not_inside l.shapes inner number proper inhabited_now c.in_ok-sub.field-0 answer.there answer.exactly (λ is. false≢true (subst (λ r. false ≡ option_eq beq r (Some true)) is c.if-eq.ensures)) in
          inside_no_more c.args.shapes.now inner c.args.outer.now l.number-index _ c.loop-number-test.true (l.invariant.outside some) (subst (λ ns. ¬ Inside (shape_at ns inner) (shape_at ns number)) same not_in_it);
    }

pub returns-clause-outside : goal.returns-clause-outside
returns-clause-outside c =
    let l = c.loop-number in
    let end = c.loop-number-test.false in
    λ told some. inside_none_of_all c.args.shapes.now c.args.inner c.args.outer.now l.number-index (omega (arith, end)) (l.invariant.outside some)
