use Rattle.std.proofs.Common.{◌≡◌, ◌+◌, ◌∷◌, [], ◌++◌, take, drop, refl, sym, ap, ◌∙◌, subst, append_assoc, arith, get_or}
use Rattle.std.proofs.lemmas.Grind.{common_steps}
use Rattle.std.specs.List.Sorted.{IsStrictlySortedBy}
use Rattle.std.specs.Map.{keys_of}
use Rattle.asl_shape.specs.declared.shape.Shape.TheViews.{roll-Field}
use Rattle.asl_shape.proofs.Sights.{inserted_proper, pushed_proper}
use Rattle.asl_numbered.specs.declared.node.NodeField.{NodeField}
use Rattle.asl_numbered.specs.TakenApart.{AreArraysAt, AreObjectsAt, AreArraysIfAny, AreObjectsIfAny}
use Rattle.asl_numbered.proofs.Growing.{expanded_push, expanded_step}
use Rattle.asl_numbered.proofs.expanding.+expand.Goals as goal
use Rattle.asl_numbered.specs.Laws.{below-wider, below_next, below_next_field}
use Rattle.asl_numbered.specs.Names.{Name, name_cmp}

pub expand_fields-loop-name-preserved : goal.expand_fields-loop-name-preserved
expand_fields-loop-name-preserved t c =
    let l = c.loop-name in
    let done = l.invariant.0 in
    let m : Name × NodeField = (c.in-Some.name.now, c.in-Some.field.now) in
    let left = c.next.new.self in
    let all : c.args.fields.now.entries ≡ done ++ m ∷ left = l.invariant.1 ∙ ap (λ ms. done ++ ms) c.in-Some.ensures.steps in
    let sorted = subst (λ ms. IsStrictlySortedBy name_cmp (keys_of ms)) all c.iter-name-items.ensures.ordered in
    let field = roll-Field (record { needed = m.1.needed; shape = c.in_ok-shape.shape }) in (
      done ++ m ∷ [],
      all ∙ sym (append_assoc done (m ∷ []) left),
      expanded_step c.args.table.now done left m l.expanded.entries c.insert.new.self.entries c.in_ok-key.key field sorted l.invariant.2 (c.in_ok-key.ensures.ok ∙ c.deref.ensures.value) refl c.in_ok-shape.ensures.expanded c.in_ok-insert.ensures.entries,
      (below_next_field c.args.bound l.name-iterator left m c.in-Some.ensures.steps l.invariant.3).1,
      inserted_proper l.expanded.entries c.insert.new.self.entries c.in_ok-key.key field l.invariant.4 c.in_ok-shape.ensures.proper c.in_ok-insert.ensures.entries,
    )

-- what is expanded has smaller numbers

pub expand_all-expand-requires : goal.expand_all-expand-requires
expand_all-expand-requires t c =
    let i = c.loop-number.number-index in
    let numbers = c.args.numbers.now in
    let n = get_or numbers i 0 in
    let split : drop i numbers ≡ n ∷ drop (i + 1) numbers = grind (arith, common_steps) in
    let below = below_next c.args.bound (drop i numbers) (drop (i + 1) numbers) n split c.loop-number.invariant.1 in
    (omega (arith, below.0), tt)

pub expand_all-loop-number-preserved : goal.expand_all-loop-number-preserved
expand_all-loop-number-preserved t c =
    let l = c.loop-number in
    let i = l.number-index in
    let numbers = c.args.numbers.now in
    let n = get_or numbers i 0 in
    let split : drop i numbers ≡ n ∷ drop (i + 1) numbers = grind (arith, common_steps) in
    let more : take (i + 1) numbers ≡ take i numbers ++ n ∷ [] = grind (arith, common_steps) in (
      expanded_push c.args.table.now (take i numbers) (take (i + 1) numbers) n l.shapes.items c.push.new.self.items c.in_ok-expand.field-0 l.invariant.0 c.in_ok-expand.ensures.expanded more c.in_ok-push.ensures.items,
      (below_next c.args.bound (drop i numbers) (drop (i + 1) numbers) n split l.invariant.1).1,
      pushed_proper l.shapes.items c.push.new.self.items c.in_ok-expand.field-0 l.invariant.2 c.in_ok-expand.ensures.proper c.in_ok-push.ensures.items,
    )

pub expand_fields-expand-requires : goal.expand_fields-expand-requires
expand_fields-expand-requires t c =
    let l = c.loop-name in
    let m : Name × NodeField = (c.in-Some.name.now, c.in-Some.field.now) in
    let below = below_next_field c.args.bound l.name-iterator c.next.new.self m c.in-Some.ensures.steps l.invariant.3 in
    (omega (arith, below.0), tt)

pub expand_arrays-expand_all-requires : goal.expand_arrays-expand_all-requires
expand_arrays-expand_all-requires t c =
    let own : AreArraysAt c.args.table.now c.args.number c.in-Some.lists = subst (AreArraysIfAny c.args.table.now c.args.number) c.in-Some.is c.requires in
    (omega arith, below-wider _ _ _ own.within own.first)

pub expand_objects-expand_fields-requires : goal.expand_objects-expand_fields-requires
expand_objects-expand_fields-requires t c =
    let own : AreObjectsAt c.args.table.now c.args.number c.in-Some.mentions = subst (AreObjectsIfAny c.args.table.now c.args.number) c.in-Some.is c.requires in
    (omega arith, below-wider _ _ _ own.within own.fields)
