use Rattle.std.proofs.Common.{codes, [], ap}
use Rattle.serde_json.specs.Find.{as_object}
use Rattle.asl_model.specs.Records.{declared_reading, declared_rows, task_rows, object_complaints, entries_complaints, members_under}
use Rattle.asl_tree.specs.View.{view}
use Rattle.asl_records.specs.Values.{as_value}
use Rattle.asl_records.proofs.DeclaredParts.{input_told, tasks_told, none_wrong, declared_stand}
use Rattle.asl_records.proofs.Entries.{members}
use Rattle.asl_records.proofs.Telling.{told_left, handed_on}
use Rattle.asl_records.proofs.Objects.{foreign_told_of}
use Rattle.asl_records.proofs.declarations.read_record.Goals as goal

pub returns-in_err-fields-clause-refused : goal.returns-in_err-fields-clause-refused
returns-in_err-fields-clause-refused c =
    let f = c.in_err-fields.field-0.0 in
    let v = as_value (view c.args.tree.now) in
    handed_on c.from_residual.result f _ c.from_residual.ensures.1
    (told_left f (object_complaints declared_reading [] declared_rows v) (entries_complaints declared_reading task_rows (members_under (codes "tasks") v)) (c.in_err-fields.ensures.refused declared_reading declared_rows))

pub returns-in_err-check_fields-clause-refused : goal.returns-in_err-check_fields-clause-refused
returns-in_err-check_fields-clause-refused c =
    let f = c.in_err-check_fields.field-0.0 in
    let v = as_value (view c.args.tree.now) in
    let object = ap (λ t. as_object (as_value t)) c.in_ok-fields.ensures.fields in
    handed_on c.from_residual-in_err-check_fields.result f _ c.from_residual-in_err-check_fields.ensures.1
    (told_left f (object_complaints declared_reading [] declared_rows v) (entries_complaints declared_reading task_rows (members_under (codes "tasks") v))
    (foreign_told_of declared_reading [] declared_rows v (members c.in_ok-fields.fields.now.entries) f object c.in_err-check_fields.ensures.refused))

pub returns-in_err-required_shape-clause-refused : goal.returns-in_err-required_shape-clause-refused
returns-in_err-required_shape-clause-refused c =
    let f = c.in_err-required_shape.field-0.0 in
    let object = ap (λ t. as_object (as_value t)) c.in_ok-fields.ensures.fields in
    handed_on c.from_residual-in_err-required_shape.result f _ c.from_residual-in_err-required_shape.ensures.1
    (input_told (as_value (view c.args.tree.now)) (members c.in_ok-fields.fields.now.entries) f object c.in_err-required_shape.ensures.refused)

pub returns-in_err-read_tasks-clause-refused : goal.returns-in_err-read_tasks-clause-refused
returns-in_err-read_tasks-clause-refused c =
    let f = c.in_err-read_tasks.field-0.0 in
    let object = ap (λ t. as_object (as_value t)) c.in_ok-fields.ensures.fields in
    handed_on c.from_residual-in_err-read_tasks.result f _ c.from_residual-in_err-read_tasks.ensures.1
    (tasks_told (as_value (view c.args.tree.now)) (members c.in_ok-fields.fields.now.entries) f object c.in_err-read_tasks.ensures.refused)

pub returns-clause-right : goal.returns-clause-right
returns-clause-right c =
    let object = ap (λ t. as_object (as_value t)) c.in_ok-fields.ensures.fields in
    none_wrong (as_value (view c.args.tree.now)) (members c.in_ok-fields.fields.now.entries) object c.in_ok-check_fields.ensures.right c.in_ok-required_shape.ensures.right c.in_ok-read_tasks.ensures.right

pub returns-clause-declared : goal.returns-clause-declared
returns-clause-declared c =
    let object = ap (λ t. as_object (as_value t)) c.in_ok-fields.ensures.fields in
    rw (c.in_ok-required_shape.ensures.shape, c.in_ok-read_tasks.ensures.tasks) (declared_stand (as_value (view c.args.tree.now)) (members c.in_ok-fields.fields.now.entries) object)
