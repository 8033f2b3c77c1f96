use Rattle.std.proofs.Common.{◌≡◌, ◌<◌, ◌∙◌, suc, length, map, ap, subst, arith}
use Rattle.asl_numbered.specs.Expansion.{shape_at, Shows}
use Rattle.asl_numbered.specs.Laws.{keeps_trans, kept_within}
use Rattle.asl_drafts.specs.Cuts.{AreCutTo}
use Rattle.asl_drafts.specs.Parts.{with_parts}
use Rattle.asl_drafts.proofs.Cuts.{left_as_it_is, one_below, one_more_cut, there_cut, cuts_counted, made_of_start, made_of_own}
use Rattle.asl_drafts.proofs.cutting.+cut_to.Goals as goal

pub cut_each-cut_to-requires : goal.cut_each-cut_to-requires
cut_each-cut_to-requires t c =
    let l = c.loop-number in
    let numbers = c.args.numbers.now in
    (omega (arith, c.decreases), (kept_within c.args.store.now l.store _ l.invariant.0 (one_below (length c.args.store.now) numbers l.number-index c.loop-number-test.true c.requires.below), c.requires.few))

pub cut_each-loop-number-preserved : goal.cut_each-loop-number-preserved
cut_each-loop-number-preserved t c =
    let l = c.loop-number in (
      keeps_trans _ _ _ l.invariant.0 c.in_ok-cut_to.ensures.keeps,
      one_more_cut c.args.levels c.args.store.now l.store c.cut_to.new.store c.args.numbers.now l.number-index l.cuts.items c.push.new.self.items c.in_ok-cut_to.field-0 c.requires.below c.loop-number-test.true l.invariant.0 l.invariant.1 c.in_ok-cut_to.ensures.keeps c.in_ok-cut_to.ensures.cut c.in_ok-push.ensures.items,
    )

pub cut_to-returns-then-branch-levels-clause-cut : goal.cut_to-returns-then-branch-levels-clause-cut
cut_to-returns-then-branch-levels-clause-cut t c =
    rw c.in_ok-depth.ensures.same (left_as_it_is c.args.store.now c.args.number c.args.levels c.in_ok-depth.field-0 c.requires.within c.in_ok-depth.ensures.depth c.if-branch-levels.true c.requires.few)

pub cut_to-rebuild-requires-clause-within : goal.cut_to-rebuild-requires-clause-within
cut_to-rebuild-requires-clause-within t c =
    there_cut c.args.store.now c.depth.new.self c.cut_each.new.store c.in-Some.below c.args.levels c.args.number c.in_ok-parts.parts.items c.in_ok-parts-2.parts.items c.in_ok-depth.ensures.same c.in_ok-parts-2.ensures.keeps c.requires.within c.in_ok-parts.ensures.parts (subst (λ ns. AreCutTo c.in-Some.below c.depth.new.self ns c.cut_each.new.store c.in_ok-parts-2.parts.items) c.deref.ensures.value c.in_ok-parts-2.ensures.cut)

pub cut_to-rebuild-requires-clause-counted : goal.cut_to-rebuild-requires-clause-counted
cut_to-rebuild-requires-clause-counted t c =
    ap length c.deref-2.ensures.value
    ∙ cuts_counted c.args.store.now c.depth.new.self c.cut_each.new.store c.in-Some.below c.args.levels c.args.number c.in_ok-parts.parts.items c.in_ok-parts-2.parts.items c.in_ok-depth.ensures.same c.in_ok-parts-2.ensures.keeps c.requires.within c.in_ok-parts.ensures.parts (subst (λ ns. AreCutTo c.in-Some.below c.depth.new.self ns c.cut_each.new.store c.in_ok-parts-2.parts.items) c.deref.ensures.value c.in_ok-parts-2.ensures.cut)

pub cut_to-remember-requires-clause-within : goal.cut_to-remember-requires-clause-within
cut_to-remember-requires-clause-within t c =
    let cut : c.args.number < length c.cut_each.new.store = there_cut c.args.store.now c.depth.new.self c.cut_each.new.store c.in-Some.below c.args.levels c.args.number c.in_ok-parts.parts.items c.in_ok-parts-2.parts.items c.in_ok-depth.ensures.same c.in_ok-parts-2.ensures.keeps c.requires.within c.in_ok-parts.ensures.parts (subst (λ ns. AreCutTo c.in-Some.below c.depth.new.self ns c.cut_each.new.store c.in_ok-parts-2.parts.items) c.deref.ensures.value c.in_ok-parts-2.ensures.cut) in
    kept_within c.cut_each.new.store c.rebuild.new.self c.args.number c.in_ok-made.ensures.keeps cut

pub cut_to-remember-requires-clause-shown : goal.cut_to-remember-requires-clause-shown
cut_to-remember-requires-clause-shown t c =
    let table = c.cut_each.new.store in
    let counted : c.args.levels ≡ suc c.in-Some.below = omega arith in
    let made : Shows c.rebuild.new.self (with_parts (shape_at table c.args.number) (map (shape_at table) c.in_ok-parts-2.parts.items)) c.in_ok-made.made = subst (λ ns. Shows c.rebuild.new.self (with_parts (shape_at table c.args.number) (map (shape_at table) ns)) c.in_ok-made.made) c.deref-2.ensures.value c.in_ok-made.ensures.rebuilt in
    made_of_own c.args.store.now c.depth.new.self c.cut_each.new.store c.in-Some.below c.args.levels c.args.number c.in_ok-parts.parts.items c.in_ok-parts-2.parts.items c.in_ok-depth.ensures.same c.in_ok-parts-2.ensures.keeps c.requires.within c.in_ok-parts.ensures.parts (subst (λ ns. AreCutTo c.in-Some.below c.depth.new.self ns c.cut_each.new.store c.in_ok-parts-2.parts.items) c.deref.ensures.value c.in_ok-parts-2.ensures.cut) c.rebuild.new.self c.in_ok-made.made counted c.in_ok-made.ensures.keeps made

pub cut_to-returns-clause-cut : goal.cut_to-returns-clause-cut
cut_to-returns-clause-cut t c =
    let table = c.cut_each.new.store in
    let counted : c.args.levels ≡ suc c.in-Some.below = omega arith in
    let made : Shows c.rebuild.new.self (with_parts (shape_at table c.args.number) (map (shape_at table) c.in_ok-parts-2.parts.items)) c.in_ok-made.made = subst (λ ns. Shows c.rebuild.new.self (with_parts (shape_at table c.args.number) (map (shape_at table) ns)) c.in_ok-made.made) c.deref-2.ensures.value c.in_ok-made.ensures.rebuilt in
    rw c.in_ok-remember.ensures (made_of_start c.args.store.now c.depth.new.self c.cut_each.new.store c.in-Some.below c.args.levels c.args.number c.in_ok-parts.parts.items c.in_ok-parts-2.parts.items c.in_ok-depth.ensures.same c.in_ok-parts-2.ensures.keeps c.requires.within c.in_ok-parts.ensures.parts (subst (λ ns. AreCutTo c.in-Some.below c.depth.new.self ns c.cut_each.new.store c.in_ok-parts-2.parts.items) c.deref.ensures.value c.in_ok-parts-2.ensures.cut) c.rebuild.new.self c.in_ok-made.made counted c.in_ok-made.ensures.keeps made)
