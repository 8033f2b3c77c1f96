use Rattle.std.proofs.Common.{◌≡◌, ◌≤◌, ◌+◌, [], ◌∷◌, ◌++◌, drop, take, refl, sym, ap, ◌∙◌, subst, append_assoc, arith}
use Rattle.std.proofs.lemmas.Grind.{common_steps}
use Rattle.std.specs.List.Sorted.{IsStrictlySortedBy}
use Rattle.std.specs.Map.{keys_of}
use Rattle.std.specs.String.{string_cmp}
use Rattle.asl_model.specs.ShapeOrder.{depth, depth_of_elements, depth_of_fields}
use Rattle.asl_shape.specs.declared.shape.Shape.TheViews.{roll-Field}
use Rattle.asl_shape.specs.View.{view, shapes_view, fields_view}
use Rattle.asl_shape.proofs.Depths.{place_depth, entry_depth}
use Rattle.asl_shape.proofs.Copies.{field_copied, pushed_shown}
use Rattle.asl_shape.proofs.Sights.{inserted_proper, pushed_proper}
use Rattle.asl_shape.proofs.Spellings.{Mention}
use Rattle.asl_shape.proofs.copying.+copy.Goals as goal

pub copy_shapes-copy-requires : goal.copy_shapes-copy-requires
copy_shapes-copy-requires t c =
    let i = c.loop-shape.shape-index in
    let shapes = c.args.shapes.now in
    let item = c.shape-item.result in
    let split : drop i shapes ≡ item ∷ drop (i + 1) shapes = grind (arith, common_steps) in
    let here : depth (view item) ≤ depth_of_elements (shapes_view shapes) = place_depth i shapes (drop (i + 1) shapes) item split in
    (omega arith, tt)

pub copy_shapes-loop-shape-preserved : goal.copy_shapes-loop-shape-preserved
copy_shapes-loop-shape-preserved t c =
    let l = c.loop-shape in
    let i = l.shape-index in
    let shapes = c.args.shapes.now in
    let item = c.shape-item.result in
    let more : take (i + 1) shapes ≡ take i shapes ++ item ∷ [] = grind (arith, common_steps) in
    (pushed_shown l.copies.items c.push.new.self.items (take i shapes) (take (i + 1) shapes) c.in_ok-copy.field-0 item l.invariant.0 c.in_ok-copy.ensures.copied more c.in_ok-push.ensures.items, pushed_proper l.copies.items c.push.new.self.items c.in_ok-copy.field-0 l.invariant.1 c.in_ok-copy.ensures.proper c.in_ok-push.ensures.items)

pub copy_fields-copy-requires : goal.copy_fields-copy-requires
copy_fields-copy-requires t c =
    let l = c.loop-name in
    let e : Mention = (c.in-Some.name.now, c.in-Some.field.now) in
    let here : depth (view e.1.shape) ≤ depth_of_fields (fields_view c.args.fields.now.entries) = entry_depth c.args.fields.now.entries l.invariant.0.0 l.name-iterator c.next.new.self e l.invariant.0.1 c.in-Some.ensures.steps in
    (omega arith, tt)

pub copy_fields-loop-name-preserved : goal.copy_fields-loop-name-preserved
copy_fields-loop-name-preserved t c =
    let l = c.loop-name in
    let done = l.invariant.0.0 in
    let m : Mention = (c.in-Some.name.now, c.in-Some.field.now) in
    let left = c.next.new.self in
    let all : c.args.fields.now.entries ≡ done ++ m ∷ left = l.invariant.0.1 ∙ ap (λ ms. done ++ ms) c.in-Some.ensures.steps in
    let sorted = subst (λ ms. IsStrictlySortedBy string_cmp (keys_of ms)) all c.iter-name-items.ensures.ordered in
    let copied = roll-Field (record { needed = m.1.needed; shape = c.in_ok-copy.field-0 }) in (
      (
        done ++ m ∷ [],
        all ∙ sym (append_assoc done (m ∷ []) left),
        ap fields_view c.in_ok-insert.ensures.entries ∙ field_copied done m left l.copies.entries c.in_ok-key.key copied sorted l.invariant.0.2 c.in_ok-key.ensures.cases refl c.in_ok-copy.ensures.copied,
      ),
      inserted_proper l.copies.entries _ c.in_ok-key.key copied l.invariant.1 c.in_ok-copy.ensures.proper c.in_ok-insert.ensures.entries,
    )
