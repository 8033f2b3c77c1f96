use Rattle.std.proofs.Common.{◌≡◌, ◌≤◌, ◌∷◌, ◌+◌, drop, arith}
use Rattle.std.proofs.lemmas.Grind.{common_steps}
use Rattle.asl_model.specs.ShapeOrder.{depth, depth_of_elements, depth_of_fields}
use Rattle.asl_shape.specs.View.{view, shapes_view, fields_view}
use Rattle.asl_shape.proofs.Depths.{place_depth, next_field_depth}
use Rattle.asl_shape_order.proofs.equality.+same.Goals as goal

pub same_shapes-same-requires : goal.same_shapes-same-requires
same_shapes-same-requires t c =
    let i = c.loop-shape.shape-index in
    let shapes = c.args.first.now in
    let item = c.shape-item.result in
    let split : drop i shapes ≡ item ∷ drop (i + 1) shapes = grind (arith, common_steps) in
    let here : depth (view item) ≤ depth_of_elements (shapes_view shapes) = place_depth i shapes (drop (i + 1) shapes) item split in
    (omega arith, tt)

pub same_fields-same-requires : goal.same_fields-same-requires
same_fields-same-requires t c =
    let l = c.loop-name in
    let here : depth (view c.in-Some.field.now.shape) ≤ depth_of_fields (fields_view c.args.first.now.entries) = next_field_depth _ l.name-iterator c.next.new.self (c.in-Some.name.now, c.in-Some.field.now) c.in-Some.ensures.steps l.invariant.1 in
    (omega arith, tt)
