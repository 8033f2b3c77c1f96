use Rattle.std.proofs.Common.{◌≡◌, ◌∷◌, [], ◌++◌, option_map, sym, ap, ◌∙◌, subst, append_assoc, arith}
use Rattle.std.specs.List.Sorted.{IsStrictlySortedBy}
use Rattle.std.specs.Map.{keys_of}
use Rattle.asl_tree.proofs.Wholes.{view_list}
use Rattle.asl_numbered.specs.declared.node.NodeField.{NodeField}
use Rattle.asl_numbered.specs.Examples.{without, is_omitted}
use Rattle.asl_numbered.specs.Expansion.{shape_at}
use Rattle.asl_numbered.specs.TakenApart.{AreArraysAt, AreObjectsAt, AreArraysIfAny, AreObjectsIfAny}
use Rattle.asl_numbered.proofs.Built.{array_built, needed_put, needed_not, needed_omitted}
use Rattle.asl_numbered.proofs.examples.+build.Goals as goal
use Rattle.asl_numbered.proofs.examples.+build.Goals.{build_needed-else-field-via-then-field+else-not-is_omitted, build_needed-else-field-via-else-field}
use Rattle.asl_numbered.specs.Laws.{below-wider, below_next_field}
use Rattle.asl_numbered.specs.Names.{Name, name_cmp}

pub build_kinds-push_examples-requires : goal.build_kinds-push_examples-requires
build_kinds-push_examples-requires t c =
    let own : AreArraysAt c.args.table.now c.args.number c.in-Some.arrays = subst (AreArraysIfAny c.args.table.now c.args.number) c.in-Some.is c.requires.below.arrays in
    (omega arith, (omega (arith, c.requires.within), below-wider _ _ _ own.within own.first))

pub build_kinds-returns-in-Some : goal.build_kinds-returns-in-Some
build_kinds-returns-in-Some t c = record {
  as_defined = view_list c.push_examples.new.trees ∙ array_built c.args.table.now (shape_at c.args.table.now c.args.number) c.args.kinds c.in-Some.arrays c.in_ok-trees.trees.items c.push_examples.new.trees.items c.requires.kept c.in-Some.is c.in_ok-trees.ensures.items c.in_ok-push_examples.ensures.put;
}

pub build_kinds-build_needed-requires : goal.build_kinds-build_needed-requires
build_kinds-build_needed-requires t c =
    let own : AreObjectsAt c.args.table.now c.args.number c.in-Some-objects.objects = subst (AreObjectsIfAny c.args.table.now c.args.number) c.in-Some-objects.is c.requires.below.objects in
    (omega arith, (omega (arith, c.requires.within), below-wider _ _ _ own.within own.fields))

pub build_needed-loop-name-preserved-then-not-is_omitted : goal.build_needed-loop-name-preserved-then-not-is_omitted
build_needed-loop-name-preserved-then-not-is_omitted t c =
    let l = c.loop-name in
    let done = l.invariant.0 in
    let m : Name × NodeField = (c.in-Some.name.now, c.in-Some.field.now) in
    let left = c.next.new.self in
    let all : c.args.fields.now.entries ≡ done ++ m ∷ left = l.invariant.1 ∙ ap (λ ms. done ++ ms) c.in-Some.ensures.steps in
    let sorted = subst (λ ms. IsStrictlySortedBy name_cmp (keys_of ms)) all c.iter-name-items.ensures.ordered in (
      done ++ m ∷ [],
      all ∙ sym (append_assoc done (m ∷ []) left),
      needed_put c.args.table.now done left m (option_map (λ name. name.now) c.args.omitted) l.built.entries c.insert.new.self.entries c.in_ok-key.key c.in_ok-tree.tree sorted l.invariant.2 (c.in_ok-key.ensures.ok ∙ c.deref-then-not-is_omitted.ensures.value) c.if-field.true (ap (is_omitted (option_map (λ name. name.now) c.args.omitted)) (sym c.deref.ensures.value) ∙ (sym c.is_omitted.ensures ∙ c.if-not-is_omitted.true)) c.in_ok-tree.ensures.as_defined c.in_ok-insert.ensures.entries,
      (below_next_field c.args.bound l.name-iterator left m c.in-Some.ensures.steps l.invariant.3).1,
    )

pub build_needed-loop-name-preserved : goal.build_needed-loop-name-preserved
build_needed-loop-name-preserved t c =
    let l = c.loop-name in
    let done = l.invariant.0 in
    let m : Name × NodeField = (c.in-Some.name.now, c.in-Some.field.now) in
    let left = c.next.new.self in
    let all : c.args.fields.now.entries ≡ done ++ m ∷ left = l.invariant.1 ∙ ap (λ ms. done ++ ms) c.in-Some.ensures.steps in (
      done ++ m ∷ [],
      all ∙ sym (append_assoc done (m ∷ []) left),
      l.invariant.2 ∙ sym (elim c.else-field.branch [
        | build_needed-else-field-via-then-field+else-not-is_omitted w ↦ needed_omitted c.args.table.now done m (option_map (λ name. name.now) c.args.omitted) w.if-field.true (ap (is_omitted (option_map (λ name. name.now) c.args.omitted)) (sym w.deref.ensures.value) ∙ (sym w.is_omitted.ensures ∙ w.if-not-is_omitted.false))
        | build_needed-else-field-via-else-field w ↦ ap (without (option_map (λ name. name.now) c.args.omitted)) (needed_not c.args.table.now done m w.if-field.false)
      ]),
      (below_next_field c.args.bound l.name-iterator left m c.in-Some.ensures.steps l.invariant.3).1,
    )
