use Rattle.std.proofs.Common.{◌≡◌, ◌&&◌, drop}
use Rattle.asl_shape.specs.Proper.{AllProper}
use Rattle.asl_shape.specs.Properness.{are_proper, fields_proper}
use Rattle.asl_shape.specs.View.{shapes_view, fields_view}
use Rattle.asl_shape.proofs.Orders.{ProperInOrder}
use Rattle.asl_shape.proofs.properness.+proper.Given as goal

abbrev pub invariant-all_proper-loop-shape : goal.invariant-all_proper-loop-shape
invariant-all_proper-loop-shape l =
    (are_proper l.shapes ≡ (l.all && are_proper (drop l.shape-index l.shapes)))
    × (AllProper (shapes_view (drop l.shape-index l.shapes)) → AllProper (shapes_view l.shapes))

abbrev pub invariant-all_fields_proper-loop-field : goal.invariant-all_fields_proper-loop-field
invariant-all_fields_proper-loop-field l =
    (fields_proper l.fields.entries ≡ (l.all && fields_proper l.field-iterator))
    × (ProperInOrder (fields_view l.field-iterator) → ProperInOrder (fields_view l.fields.entries))
