use Rattle.std.proofs.Common.{◌≡◌, [], ◌∷◌, ◌++◌, ◌+◌, ◌≤◌, drop, map, arith, sym, ap, ◌∙◌, subst, append_assoc}
use Rattle.std.specs.List.Sorted.{IsStrictlySortedBy}
use Rattle.std.specs.Map.{keys_of}
use Rattle.std.specs.String.{string_cmp}
use Rattle.std.proofs.lemmas.List.{take_all}
use Rattle.asl_model.specs.Written.{written_shape}
use Rattle.asl_model.specs.ShapeOrder.{depth, depth_of_elements, depth_of_fields}
use Rattle.std.proofs.lemmas.Grind.{common_steps}
use Rattle.asl_tree.specs.View as trees
use Rattle.asl_shape.specs.View.{view, shapes_view, fields_view}
use Rattle.asl_shape.proofs.Depths.{place_depth, entry_depth}
use Rattle.asl_shape.proofs.Orders.{in_order, and_proper_in_order, all_proper}
use Rattle.asl_shape.proofs.Spellings.{Mention}
use Rattle.asl_shape.proofs.Writings.{arrays_written, shapes_written, field_written}
use Rattle.asl_shape.proofs.writing.+write.Goals as goal

pub write_shapes-write_shape-requires : goal.write_shapes-write_shape-requires
write_shapes-write_shape-requires t c =
    let i = c.loop-shape.shape-index in
    let shapes = c.args.shapes.now in
    let item = c.shape-item.result in
    let split : drop i shapes ≡ item ∷ drop (i + 1) shapes = grind (arith, common_steps) in
    let here : depth (view item) ≤ depth_of_elements (shapes_view shapes) = place_depth i shapes (drop (i + 1) shapes) item split in
    (omega arith, tt)

pub write_fields-write_shape-requires : goal.write_fields-write_shape-requires
write_fields-write_shape-requires t c =
    let l = c.loop-name in
    let e : Mention = (c.in-Some.name.now, c.in-Some.field.now) in
    let here : depth (view e.1.shape) ≤ depth_of_fields (fields_view c.args.fields.now.entries) = entry_depth c.args.fields.now.entries l.invariant.0.0 l.name-iterator c.next.new.self e l.invariant.0.1 c.in-Some.ensures.steps in
    (omega arith, tt)

pub write_places-returns-clause-written : goal.write_places-returns-clause-written
write_places-returns-clause-written t c others =
    let prefix = c.in_ok-prefix_items in
    arrays_written c.args.first.now c.args.rest.now prefix.prefix_items.items c.unless_any.result others prefix.ensures.written c.unless_any.ensures.some (c.unless_any.ensures.tree c.in_ok-items.ensures.written)

pub write_shapes-returns-clause-written : goal.write_shapes-returns-clause-written
write_shapes-returns-clause-written t c =
    shapes_written c.loop-shape.elements.items c.args.shapes.now (c.loop-shape.invariant.0 ∙ ap (map (λ s. written_shape (view s))) (take_all c.loop-shape.shape-index c.args.shapes.now c.loop-shape-test.false))

pub write_fields-returns-clause-proper : goal.write_fields-returns-clause-proper
write_fields-returns-clause-proper t c =
    all_proper c.args.fields.now.entries c.loop-name.name-iterator c.in-None.ensures.steps.0 c.loop-name.invariant.1 (in_order _ c.iter-name-items.ensures.ordered)

pub write_fields-loop-name-preserved : goal.write_fields-loop-name-preserved
write_fields-loop-name-preserved t c =
    let l = c.loop-name in
    let done = l.invariant.0.0 in
    let m : Mention = (c.in-Some.name.now, c.in-Some.field.now) in
    let left = c.next.new.self in
    let all : c.args.fields.now.entries ≡ done ++ m ∷ left = l.invariant.0.1 ∙ ap (λ ms. done ++ ms) c.in-Some.ensures.steps in
    let sorted = subst (λ ms. IsStrictlySortedBy string_cmp (keys_of ms)) all c.iter-name-items.ensures.ordered in (
      (
        done ++ m ∷ [],
        all ∙ sym (append_assoc done (m ∷ []) left),
        ap trees.entries_view c.in_ok-insert.ensures.entries ∙ field_written done m left l.properties.entries c.in_ok-key.key c.in_ok-write_shape.field-0 sorted l.invariant.0.2 c.in_ok-key.ensures.cases c.in_ok-write_shape.ensures.written,
      ),
      (λ h. l.invariant.1 (and_proper_in_order m left l.name-iterator c.in-Some.ensures.steps c.in_ok-write_shape.ensures.proper h)),
    )
