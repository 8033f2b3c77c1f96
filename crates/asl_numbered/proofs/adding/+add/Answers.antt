use Rattle.std.proofs.Common.{◌≡◌, ◌≤◌, ◌+◌, ◌∷◌, [], ◌++◌, drop, take, Some, refl, sym, ap, ◌∙◌, subst, append_assoc, arith}
use Rattle.std.proofs.lemmas.Grind.{common_steps}
use Rattle.std.specs.List.Sorted.{IsStrictlySortedBy}
use Rattle.std.specs.Map.{keys_of}
use Rattle.std.specs.String.{string_cmp}
use Rattle.asl_model.specs.ShapeOrder.{depth, depth_of_elements, depth_of_fields}
use Rattle.asl_shape.specs.Kinds.{arrays_view, objects_view}
use Rattle.asl_shape.specs.View.{view, shapes_view, fields_view}
use Rattle.asl_shape.proofs.Depths.{place_depth, entry_depth}
use Rattle.asl_shape.proofs.Spellings.{Mention}
use Rattle.asl_numbered.specs.TakenApart.{HasArraysAt, HasObjectsAt}
use Rattle.asl_numbered.proofs.Growing.{number_step, numbers_end, field_step, numbered_list_refers, numbered_object_refers, arrays_added, objects_added}
use Rattle.asl_numbered.proofs.adding.+add.Goals as goal
use Rattle.asl_numbered.specs.Laws.{keeps_trans}

pub add_all-loop-shape-preserved : goal.add_all-loop-shape-preserved
add_all-loop-shape-preserved t c =
    let l = c.loop-shape in
    let i = l.shape-index in
    let shapes = c.args.shapes.now in
    let s = c.shape-item.result in
    let more : take (i + 1) shapes ≡ take i shapes ++ s ∷ [] = grind (arith, common_steps) in (
      keeps_trans _ _ _ l.invariant.0 c.in_ok-number.ensures.keeps,
      number_step _ _ (take i shapes) (take (i + 1) shapes) s l.numbers.items c.push.new.self.items c.in_ok-number.number c.in_ok-number.ensures.keeps l.invariant.1 c.in_ok-number.ensures.number more c.in_ok-push.ensures.items,
    )

pub add_all-returns : goal.add_all-returns
add_all-returns t c = record {
  numbers = numbers_end _ c.loop-shape.shape-index c.args.shapes.now _ c.loop-shape-test.false c.loop-shape.invariant.1;
  keeps = c.loop-shape.invariant.0;
}

pub add_fields-loop-name-preserved : goal.add_fields-loop-name-preserved
add_fields-loop-name-preserved t c =
    let l = c.loop-name in
    let done = l.invariant.0 in
    let m : Mention = (c.in-Some.name.now, c.in-Some.field.now) in
    let left = c.next.new.self in
    let all : c.args.fields.now.entries ≡ done ++ m ∷ left = l.invariant.1 ∙ ap (λ ms. done ++ ms) c.in-Some.ensures.steps in
    let sorted = subst (λ ms. IsStrictlySortedBy string_cmp (keys_of ms)) all c.iter-name-items.ensures.ordered in (
      done ++ m ∷ [],
      all ∙ sym (append_assoc done (m ∷ []) left),
      keeps_trans _ _ _ l.invariant.2 c.in_ok-shape.ensures.keeps,
      field_step _ _ done left m l.numbered.entries c.insert.new.self.entries c.in_ok-key.key _ sorted c.in_ok-shape.ensures.keeps l.invariant.3 (c.in_ok-key.ensures.ok ∙ c.deref.ensures) refl c.in_ok-shape.ensures.number c.in_ok-insert.ensures.entries,
    )

-- the parts are less deep

pub add_all-add-requires : goal.add_all-add-requires
add_all-add-requires t c =
    let i = c.loop-shape.shape-index in
    let shapes = c.args.shapes.now in
    let item = c.shape-item.result in
    let split : drop i shapes ≡ item ∷ drop (i + 1) shapes = grind (arith, common_steps) in
    let here : depth (view item) ≤ depth_of_elements (shapes_view shapes) = place_depth i shapes (drop (i + 1) shapes) item split in
    (omega arith, tt)

pub add_fields-add-requires : goal.add_fields-add-requires
add_fields-add-requires t c =
    let l = c.loop-name in
    let e : Mention = (c.in-Some.name.now, c.in-Some.field.now) in
    let here : depth (view e.1.shape) ≤ depth_of_fields (fields_view c.args.fields.now.entries) = entry_depth c.args.fields.now.entries l.invariant.0 l.name-iterator c.next.new.self e l.invariant.1 c.in-Some.ensures.steps in
    (omega arith, tt)

-- lists and objects

pub add_arrays-put-requires-clause-refers : goal.add_arrays-put-requires-clause-refers
add_arrays-put-requires-clause-refers t c =
    numbered_list_refers _ _ _ _ c.in_ok-places.places c.in_ok-further.further c.in_ok-further.ensures.keeps c.in_ok-places.ensures.numbers c.in_ok-further.ensures.number

pub add_arrays-returns-clause-number : goal.add_arrays-returns-clause-number
add_arrays-returns-clause-number t c =
    subst (λ arrays. HasArraysAt c.put.new.self (arrays_view arrays) (Some c.in_ok-put.field-0)) (sym c.in-Some.is) (arrays_added _ _ _ _ _ c.in_ok-places.places c.in_ok-further.further c.in_ok-put.field-0 c.in_ok-further.ensures.keeps c.in_ok-places.ensures.numbers c.in_ok-further.ensures.number c.in_ok-put.ensures.number)

pub add_objects-put-requires-clause-refers : goal.add_objects-put-requires-clause-refers
add_objects-put-requires-clause-refers t c =
    numbered_object_refers _ _ c.in_ok-fields.fields c.in-Some.mentions.extra c.in_ok-fields.ensures.numbers

pub add_objects-returns-clause-number : goal.add_objects-returns-clause-number
add_objects-returns-clause-number t c =
    subst (λ objects. HasObjectsAt c.put.new.self (objects_view objects) (Some c.in_ok-put.field-0)) (sym c.in-Some.is) (objects_added _ _ _ c.in_ok-fields.fields c.in-Some.mentions.extra c.in_ok-put.field-0 c.in_ok-fields.ensures.numbers c.in_ok-put.ensures.number)
