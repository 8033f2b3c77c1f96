use Rattle.std.proofs.Common.{◌≡◌, ◌≤◌, ◌+◌, map, [], ◌∷◌, ◌++◌, drop, take, refl, sym, ap, ◌∙◌, subst, append_assoc, arith}
use Rattle.std.proofs.lemmas.Grind.{common_steps}
use Rattle.std.specs.List.Sorted.{IsStrictlySortedBy}
use Rattle.std.specs.Map.{keys_of}
use Rattle.std.specs.String.{string_cmp}
use Rattle.asl_model.specs.ShapeOrder.{depth, depth_of_elements, depth_of_fields}
use Rattle.asl_shape.specs.declared.shape.Shape.TheViews.{roll-Field}
use Rattle.asl_model.specs.Shape.{OfKinds}
use Rattle.asl_shape.specs.Kinds.{kinds_view, simple_of, owned_arrays_view, owned_objects_view}
use Rattle.asl_shape.specs.View.{view, shapes_view, shapes_of, fields_view}
use Rattle.asl_shape.proofs.Depths.{place_depth, entry_depth}
use Rattle.asl_shape.proofs.Sights.{inserted_proper, pushed_proper}
use Rattle.asl_shape.proofs.Spellings.{Mention}
use Rattle.asl_samples.specs.Opened.{opened}
use Rattle.asl_samples.proofs.OpenedShapes.{each_opened, field_opened, inside_shown, pushed_opened}
use Rattle.asl_samples.proofs.opening.+opened.Goals as goal

pub opened_each-opened-requires : goal.opened_each-opened-requires
opened_each-opened-requires t c =
    let i = c.loop-shape.shape-index in
    let shapes = c.args.shapes.now in
    let item = c.shape-item.result in
    let split : drop i shapes ≡ item ∷ drop (i + 1) shapes = grind (arith, common_steps) in
    let here : depth (view item) ≤ depth_of_elements (shapes_view shapes) = place_depth i shapes (drop (i + 1) shapes) item split in
    (omega arith, tt)

pub opened_each-loop-shape-preserved : goal.opened_each-loop-shape-preserved
opened_each-loop-shape-preserved t c =
    let l = c.loop-shape in
    let i = l.shape-index in
    let shapes = c.args.shapes.now in
    let item = c.shape-item.result in
    let more : take (i + 1) shapes ≡ take i shapes ++ item ∷ [] = grind (arith, common_steps) in
    (pushed_opened l.each.items c.push.new.self.items (take i shapes) (take (i + 1) shapes) c.in_ok-opened.field-0 item l.invariant.0 c.in_ok-opened.ensures.as_defined more c.in_ok-push.ensures.items, pushed_proper l.each.items c.push.new.self.items c.in_ok-opened.field-0 l.invariant.1 c.in_ok-opened.ensures.proper c.in_ok-push.ensures.items)

pub opened_fields-opened-requires : goal.opened_fields-opened-requires
opened_fields-opened-requires t c =
    let l = c.loop-name in
    let e : Mention = (c.in-Some.name.now, c.in-Some.field.now) in
    let here : depth (view e.1.shape) ≤ depth_of_fields (fields_view c.args.fields.now.entries) = entry_depth c.args.fields.now.entries l.invariant.0.0 l.name-iterator c.next.new.self e l.invariant.0.1 c.in-Some.ensures.steps in
    (omega arith, tt)

pub opened_fields-loop-name-preserved : goal.opened_fields-loop-name-preserved
opened_fields-loop-name-preserved t c =
    let l = c.loop-name in
    let done = l.invariant.0.0 in
    let m : Mention = (c.in-Some.name.now, c.in-Some.field.now) in
    let left = c.next.new.self in
    let all : c.args.fields.now.entries ≡ done ++ m ∷ left = l.invariant.0.1 ∙ ap (λ ms. done ++ ms) c.in-Some.ensures.steps in
    let sorted = subst (λ ms. IsStrictlySortedBy string_cmp (keys_of ms)) all c.iter-name-items.ensures.ordered in
    let one = roll-Field (record { needed = m.1.needed; shape = c.in_ok-shape.shape }) in (
      (
        done ++ m ∷ [],
        all ∙ sym (append_assoc done (m ∷ []) left),
        ap fields_view c.in_ok-insert.ensures.entries ∙ field_opened done m left l.each.entries c.in_ok-key.key one sorted l.invariant.0.2 c.in_ok-key.ensures.cases refl c.in_ok-shape.ensures.as_defined,
      ),
      inserted_proper l.each.entries _ c.in_ok-key.key one l.invariant.1 c.in_ok-shape.ensures.proper c.in_ok-insert.ensures.entries,
    )

pub opened_each-returns-clause-as_defined : goal.opened_each-returns-clause-as_defined
opened_each-returns-clause-as_defined t c =
    let l = c.loop-shape in
    let shapes = c.args.shapes.now in
    let whole : take l.shape-index shapes ≡ shapes = grind (arith, common_steps) in
    ap shapes_of (l.invariant.0 ∙ ap (λ ss. map opened (map view ss)) whole) ∙ each_opened (map view shapes)

-- every tree of the shape has the opened one

pub opened-returns-in_ok-opened_objects-in-Some-clause-inside : goal.opened-returns-in_ok-opened_objects-in-Some-clause-inside
opened-returns-in_ok-opened_objects-in-Some-clause-inside t c =
    let kinds = c.in-Some.kinds in
    let arrays = c.in_ok-opened_arrays-in-Some in
    let objects = c.in_ok-opened_objects-in-Some in
    let is : OfKinds (simple_of kinds.null kinds.boolean kinds.integer kinds.text) (owned_arrays_view arrays.field-0) (owned_objects_view objects.field-0) ≡ opened (kinds_view kinds) = rw (arrays.ensures.as_defined, objects.ensures.as_defined) refl in
    inside_shown (view c.args.shape.now) _ c.of_kinds.result (is ∙ ap opened c.in-Some.ensures.shown) c.of_kinds.ensures.shown
