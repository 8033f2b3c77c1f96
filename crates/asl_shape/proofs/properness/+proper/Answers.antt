use Rattle.std.proofs.Common.{ap, subst, sym, ◌∙◌}
use Rattle.asl_shape.specs.Proper.{AllProper}
use Rattle.asl_shape.specs.View.{shapes_view}
use Rattle.asl_shape.proofs.Orders.{all_proper, in_order, merged_proper}
use Rattle.asl_shape.proofs.Sights.{seen_object}
use Rattle.asl_shape.proofs.Views.{view_object, view_several}
use Rattle.asl_shape.proofs.properness.+proper.Goals as goal

pub all_fields_proper-returns-clause-names : goal.all_fields_proper-returns-clause-names
all_fields_proper-returns-clause-names t c =
    all_proper c.args.fields.now.entries c.loop-field.field-iterator c.in-None.ensures.steps.0 c.loop-field.invariant.1 (in_order _ c.iter-field-items.ensures.ordered)

pub is_well_formed-returns-in-Object-clause-told : goal.is_well_formed-returns-in-Object-clause-told
is_well_formed-returns-in-Object-clause-told t c =
    rw c.in-Object.is (c.all_fields_proper.ensures.told ∙ sym (ap (λ s. s.proper) (seen_object c.in-Object.fields c.in-Object.extra)))

pub is_well_formed-returns-in-Object-clause-names : goal.is_well_formed-returns-in-Object-clause-names
is_well_formed-returns-in-Object-clause-names t c =
    rw c.in-Object.is (rw (view_object c.in-Object.fields c.in-Object.extra) (record { proper = (tt, c.all_fields_proper.ensures.names.proper) }))

pub is_well_formed-returns-in-Several-clause-names : goal.is_well_formed-returns-in-Several-clause-names
is_well_formed-returns-in-Several-clause-names t c =
    let parts = c.in-Several.parts in
    let each : AllProper (shapes_view parts.items) = subst (λ ss. AllProper (shapes_view ss)) c.deref-in-Several.ensures.value c.parts_proper.ensures.names in
    rw c.in-Several.is (rw (view_several parts) (merged_proper parts.items each))
