use Rattle.std.proofs.Common.{◌≡◌, ◌∷◌, drop, ◌+◌, ◌∙◌, string_bytes, sym, refl, ap, subst, false, true, arith, rules}
use Rattle.std.proofs.lemmas.Grind.{common_steps}
use Rattle.asl_shape.specs.declared.ShapeRefusal.TheVariants.{NotAShape}
use Rattle.asl_shape.proofs.Naming.{has, IsWith, has_next, was_taken, was_new, texts_step, new_step, listed_step, repeated_told}
use Rattle.asl_shape.proofs.Requiring.{new_are_distinct}
use Rattle.asl_shape.proofs.levels.distinct_names.Goals as goal

pub loop-element-init : goal.loop-element-init
loop-element-init c = (
  refl,
  sym (new_are_distinct _ (has c.new-seen.result.keys) (λ n. ap (λ keys. has keys n) c.new-seen.ensures.empty)),
  search rules,
)

pub returns-then-not-branch-clause-refused : goal.returns-then-not-branch-clause-refused
returns-then-not-branch-clause-refused c =
    let i = c.loop-element.element-index in
    let names = c.args.elements.now in
    let item = c.element-item.result in
    let split : drop i names ≡ item ∷ drop (i + 1) names = grind (arith, common_steps) in
    let taken : has c.loop-element.seen.keys c.as_str.result.now ≡ true = was_taken _ _ c.in_ok-insert.ensures.added c.if-not-branch.true in
    repeated_told NotAShape names (drop i names) (drop (i + 1) names) item _ c.loop-element.seen.keys c.loop-element.invariant.1 split c.in_ok-name.ensures.named (subst (λ n. has c.loop-element.seen.keys n ≡ true) c.as_str.ensures.value taken) (search rules)

pub loop-element-preserved : goal.loop-element-preserved
loop-element-preserved c =
    let i = c.loop-element.element-index in
    let names = c.args.elements.now in
    let item = c.element-item.result in
    let name = string_bytes c.in_ok-name.name.now in
    let split : drop i names ≡ item ∷ drop (i + 1) names = grind (arith, common_steps) in
    let old = c.loop-element.seen.keys in
    let new = c.insert.new.self.keys in
    let fresh : has old c.as_str.result.now ≡ false = was_new _ _ c.in_ok-insert.ensures.added c.if-not-branch.false in
    let next = has_next old new c.as_str.result c.in_ok-insert.ensures.updates.0 in (
      c.loop-element.invariant.0 ∙ texts_step (drop i names) (drop (i + 1) names) item name split c.in_ok-name.ensures.named,
      c.loop-element.invariant.1 ∙ new_step (drop i names) (drop (i + 1) names) item name old new split c.in_ok-name.ensures.named (subst (λ n. has old n ≡ false) c.as_str.ensures.value fresh) (subst (IsWith old new) c.as_str.ensures.value next),
      listed_step (drop i names) (drop (i + 1) names) item c.in_ok-name.name c.loop-element.names.items c.push.new.self.items _ split c.in_ok-name.ensures.named c.in_ok-push.ensures.items c.loop-element.invariant.2,
    )
