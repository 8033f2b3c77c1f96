use Rattle.std.proofs.Common.{◌≡◌, codes, None, ap, ◌∙◌}
use Rattle.serde_json.specs.Find.{as_object, get_member}
use Rattle.asl_model.specs.Records.{declared_reading, task_rows}
use Rattle.asl_tree.specs.View.{view}
use Rattle.asl_shape.specs.View.{view as shape_view}
use Rattle.asl_records.specs.Parts.{shape_there}
use Rattle.asl_records.specs.Values.{as_value}
use Rattle.asl_records.proofs.DeclaredParts.{takes_told, gives_told, or_any, task_right, task_stands}
use Rattle.asl_records.proofs.Entries.{members}
use Rattle.asl_records.proofs.Telling.{handed_on}
use Rattle.asl_records.proofs.Objects.{foreign_told_of}
use Rattle.asl_records.proofs.declarations.read_task.Goals as goal

pub returns-in_err-fields-clause-refused : goal.returns-in_err-fields-clause-refused
returns-in_err-fields-clause-refused c = handed_on c.from_residual.result c.in_err-fields.field-0.0 _ c.from_residual.ensures.1 (c.in_err-fields.ensures.refused declared_reading task_rows)

pub returns-in_err-check_fields-clause-refused : goal.returns-in_err-check_fields-clause-refused
returns-in_err-check_fields-clause-refused c =
    let f = c.in_err-check_fields.field-0.0 in
    let object = ap (λ t. as_object (as_value t)) c.in_ok-fields.ensures.fields in
    handed_on c.from_residual-in_err-check_fields.result f _ c.from_residual-in_err-check_fields.ensures.1
    (foreign_told_of declared_reading c.args.name.now task_rows (as_value (view c.args.tree.now)) (members c.in_ok-fields.fields.now.entries) f object c.in_err-check_fields.ensures.refused)

pub returns-in_err-optional_shape-clause-refused : goal.returns-in_err-optional_shape-clause-refused
returns-in_err-optional_shape-clause-refused c =
    let f = c.in_err-optional_shape.field-0.0 in
    let object = ap (λ t. as_object (as_value t)) c.in_ok-fields.ensures.fields in
    handed_on c.from_residual-in_err-optional_shape.result f _ c.from_residual-in_err-optional_shape.ensures.1
    (takes_told c.args.name.now (as_value (view c.args.tree.now)) (members c.in_ok-fields.fields.now.entries) f object c.in_err-optional_shape.ensures.refused)

pub returns-in_err-required_shape-clause-refused : goal.returns-in_err-required_shape-clause-refused
returns-in_err-required_shape-clause-refused c =
    let f = c.in_err-required_shape.field-0.0 in
    let object = ap (λ t. as_object (as_value t)) c.in_ok-fields.ensures.fields in
    handed_on c.from_residual-in_err-required_shape.result f _ c.from_residual-in_err-required_shape.ensures.1
    (gives_told c.args.name.now (as_value (view c.args.tree.now)) (members c.in_ok-fields.fields.now.entries) f object c.in_err-required_shape.ensures.refused)

pub returns-clause-right : goal.returns-clause-right
returns-clause-right c =
    let object = ap (λ t. as_object (as_value t)) c.in_ok-fields.ensures.fields in
    task_right c.args.name.now (as_value (view c.args.tree.now)) (members c.in_ok-fields.fields.now.entries) object c.in_ok-check_fields.ensures.right c.in_ok-optional_shape.ensures.right c.in_ok-required_shape.ensures.right

pub returns-clause-shapes : goal.returns-clause-shapes
returns-clause-shapes c =
    let ms = members c.in_ok-fields.fields.now.entries in
    let object = ap (λ t. as_object (as_value t)) c.in_ok-fields.ensures.fields in
    let takes : shape_view c.unwrap_or.result ≡ shape_there None (get_member (codes "takes") ms) = ap shape_view c.unwrap_or.ensures ∙ or_any c.in_ok-optional_shape.field-0 _ c.in_ok-optional_shape.ensures.shape in
    rw (takes, c.in_ok-required_shape.ensures.shape) (task_stands (as_value (view c.args.tree.now)) ms object)
