use Rattle.std.proofs.Common.{◌≡◌, ◌≤◌, ◌∷◌, ◌+◌, drop, arith}
use Rattle.std.proofs.lemmas.Grind.{common_steps}
use Rattle.asl_model.specs.ShapeOrder.{depth, depth_of_elements, depth_of_fields}
use Rattle.asl_shape.specs.View.{view, shapes_view, fields_view}
use Rattle.asl_shape.proofs.Depths.{place_depth, next_field_depth}
use Rattle.asl_shape.proofs.Orders.{in_order}
use Rattle.asl_shape.proofs.inhabiting.+inhabited.Goals as goal

pub needed_inhabited-returns-then-not-is_inhabited-clause-in_order :
    goal.needed_inhabited-returns-then-not-is_inhabited-clause-in_order
needed_inhabited-returns-then-not-is_inhabited-clause-in_order t c = in_order _ c.iter-field-items.ensures.ordered

pub needed_inhabited-returns-clause-in_order : goal.needed_inhabited-returns-clause-in_order
needed_inhabited-returns-clause-in_order t c = in_order _ c.iter-field-items.ensures.ordered

pub all_inhabited-is_inhabited-requires : goal.all_inhabited-is_inhabited-requires
all_inhabited-is_inhabited-requires t c =
    let i = c.loop-shape.shape-index in
    let shapes = c.args.shapes.now in
    let item = c.shape-item.result in
    let split : drop i shapes ≡ item ∷ drop (i + 1) shapes = grind (arith, common_steps) in
    let here : depth (view item) ≤ depth_of_elements (shapes_view shapes) = place_depth i shapes (drop (i + 1) shapes) item split in
    (omega arith, tt)

pub needed_inhabited-is_inhabited-requires : goal.needed_inhabited-is_inhabited-requires
needed_inhabited-is_inhabited-requires t c =
    let l = c.loop-field in
    let here : depth (view c.in-Some.field.now.shape) ≤ depth_of_fields (fields_view c.args.fields.now.entries) = next_field_depth _ l.field-iterator c.next.new.self (c.in-Some.field-0-0.now, c.in-Some.field.now) c.in-Some.ensures.steps l.invariant.2 in
    (omega arith, tt)
