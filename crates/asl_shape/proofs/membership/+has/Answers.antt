use Rattle.std.proofs.Common.{arith, ◌≡◌, ◌≤◌, ◌∷◌, ◌+◌, drop, sym, ◌∙◌}
use Rattle.std.proofs.lemmas.Grind.{common_steps}
use Rattle.asl_model.specs.Shape as model
use Rattle.asl_model.specs.ShapeOrder.{depth, depth_of_elements, depth_of_fields}
use Rattle.asl_shape.specs.View.{view, shapes_view, fields_view}
use Rattle.asl_shape.proofs.Depths.{place_depth, next_field_depth}
use Rattle.asl_shape.proofs.Places.{none_left, list_has}
use Rattle.asl_shape.proofs.membership.+has.Goals as goal

-- src/membership.rt:43:1
pub first_have-returns-clause-places : goal.first_have-returns-clause-places
first_have-returns-clause-places t c =
    sym (c.loop-shape.invariant.0 ∙ none_left _ _ _ c.loop-shape-test.false)

pub places_have-returns-then-first_have : goal.places_have-returns-then-first_have
places_have-returns-then-first_have t c =
    list_has c.args.first.now (model.has (view c.args.rest.now)) c.args.elements.now c.each_has.result (sym c.if-first_have.true ∙ c.first_have.ensures.places) c.each_has.ensures

pub first_have-is_valid-requires : goal.first_have-is_valid-requires
first_have-is_valid-requires t c =
    let i = c.loop-shape.shape-index in
    let shapes = c.args.shapes.now in
    let item = c.shape-item.result in
    let split : drop i shapes ≡ item ∷ drop (i + 1) shapes = grind (arith, common_steps) in
    let here : depth (view item) ≤ depth_of_elements (shapes_view shapes) = place_depth i shapes (drop (i + 1) shapes) item split in
    (omega arith, tt)

pub fields_have-is_valid-requires : goal.fields_have-is_valid-requires
fields_have-is_valid-requires t c =
    let l = c.loop-name in
    let here : depth (view c.in-Some.field.now.shape) ≤ depth_of_fields (fields_view c.args.fields.now.entries) = next_field_depth _ l.name-iterator c.next.new.self (c.in-Some.name.now, c.in-Some.field.now) c.in-Some.ensures.steps l.invariant.1 in
    (omega arith, tt)
