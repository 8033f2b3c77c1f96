use Rattle.std.proofs.Common.{◌≤◌, ◌&&◌, ap, arith, sym, ◌∙◌}
use Rattle.asl_model.specs.ShapeOrder.{depth, depth_of_fields, sub}
use Rattle.asl_shape.specs.View.{view, shapes_view, fields_view}
use Rattle.asl_shape_order.proofs.Bounds.{places_then_further}
use Rattle.asl_shape.proofs.Depths.{next_field_depth}
use Rattle.asl_shape_order.proofs.comparing.+sub.Goals as goal

pub fields_sub-is_sub-requires : goal.fields_sub-is_sub-requires
fields_sub-is_sub-requires t c =
    let l = c.loop-name in
    let here : depth (view c.in-Some.field.now.shape) ≤ depth_of_fields (fields_view c.args.outer.now.entries) = next_field_depth _ l.name-iterator c.next.new.self (c.in-Some.name.now, c.in-Some.field.now) c.in-Some.ensures.steps l.invariant.1 in
    (omega arith, tt)

pub part_by_part-returns-then-places_sub : goal.part_by_part-returns-then-places_sub
part_by_part-returns-then-places_sub t c =
    let rest = view c.args.rest.now in
    let further = view c.args.further.now in
    let split = places_then_further (shapes_view c.args.places.now) further (shapes_view c.args.bounds.now) rest in
    c.is_sub.ensures ∙ sym (split ∙ ap (λ b. b && sub further rest) (sym c.places_sub.ensures ∙ c.if-places_sub.true))

pub part_by_part-returns-else-places_sub : goal.part_by_part-returns-else-places_sub
part_by_part-returns-else-places_sub t c =
    let rest = view c.args.rest.now in
    let further = view c.args.further.now in
    let split = places_then_further (shapes_view c.args.places.now) further (shapes_view c.args.bounds.now) rest in
    c.if-places_sub.false ∙ sym (split ∙ ap (λ b. b && sub further rest) (sym c.places_sub.ensures ∙ c.if-places_sub.false))
