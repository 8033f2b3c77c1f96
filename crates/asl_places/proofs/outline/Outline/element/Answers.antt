use Rattle.std.proofs.Common.{◌≡◌, suc, ◌-◌, None, drop, sym, ap, ap₂, ◌∙◌, subst, arith}
use Rattle.json.specs.Find.{BeginsWith, get_item, at}
use Rattle.asl_places.specs.Found.{FindsAt}
use Rattle.asl_places.proofs.Reading.{at-no_list}
use Rattle.asl_places.proofs.outline.Outline.element.Goals as goal

pub returns-in_err-items : goal.returns-in_err-items
returns-in_err-items c j begins =
    let gone : c.from_residual.result ≡ None = grind arith in
    subst (λ r. FindsAt c.args.self.now.0 r (at c.args.index j)) (sym gone) (at-no_list c.args.index j (c.in_err-items.ensures.items j begins))

pub loop-item-init : goal.loop-item-init
loop-item-init c = record {
  tokens = c.in_ok-items.ensures.tokens;
  search = λ j begins. let inside = c.in_ok-items.ensures.items j begins in (inside.0, inside.2, ap (at c.args.index) inside.1);
}

pub returns-in_err-item : goal.returns-in_err-item
returns-in_err-item c j begins =
    let now = c.loop-item.invariant.search j begins in
    let gone : c.from_residual-in_err-item.result ≡ None = grind arith in
    subst (λ r. FindsAt c.args.self.now.0 r (at c.args.index j)) (sym gone) (now.2 ∙ ap (get_item c.loop-item.left) (c.in_err-item.ensures.value now.0 now.1))

pub returns-then-left-eq0 : goal.returns-then-left-eq0
returns-then-left-eq0 c j begins =
    let now = c.loop-item.invariant.search j begins in
    let f = c.in_ok-item.ensures.value now.0 now.1 in
    let zero_left : c.loop-item.left ≡ 0 = omega arith in
    (f.0, now.2 ∙ ap₂ get_item zero_left f.2, subst (λ ts. BeginsWith (drop c.in_ok-item.item.token ts) f.0) c.loop-item.invariant.tokens f.3)

pub loop-item-preserved : goal.loop-item-preserved
loop-item-preserved c = record {
  tokens = c.in_ok-item.ensures.tokens ∙ c.loop-item.invariant.tokens;
  search = λ j begins.
      let now = c.loop-item.invariant.search j begins in
      let f = c.in_ok-item.ensures.value now.0 now.1 in
      let one_less : c.loop-item.left ≡ suc (c.loop-item.left - 1) = omega arith in
      (f.1, f.4, now.2 ∙ ap₂ get_item one_less f.2);
}
