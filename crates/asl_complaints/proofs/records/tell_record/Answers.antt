use Rattle.std.proofs.Common.{map, refl, ap}
use Rattle.asl_model.specs.Records.{NotObject, declared_complaints}
use Rattle.asl_tree.specs.View.{view}
use Rattle.asl_records.specs.Values.{as_value}
use Rattle.asl_records.specs.View.{complaint_view}
use Rattle.asl_records.proofs.FieldParts.{no_object}
use Rattle.asl_complaints.proofs.Parts.{no_record, object_there}
use Rattle.asl_complaints.proofs.Telling.{tells_on}
use Rattle.asl_complaints.proofs.records.tell_record.Goals as goal

pub returns-in-Object : goal.returns-in-Object
returns-in-Object c =
    tells_on c.tell_fields.result (map complaint_view c.args.told.now.items) (map complaint_view c.tell_fields.new.told.items) _ (declared_complaints (as_value (view c.args.tree.now)))
    (ap declared_complaints (object_there c.args.tree.now c.in-Object.fields c.in-Object.is)) c.tell_fields.ensures

pub returns-in-Null : goal.returns-in-Null
returns-in-Null c =
    tells_on c.tell.result (map complaint_view c.args.told.now.items) (map complaint_view c.tell.new.told.items) _ (declared_complaints (as_value (view c.args.tree.now)))
    (no_record (as_value (view c.args.tree.now)) (no_object c.args.tree.now c.in-Null.is)) (c.tell.ensures NotObject refl)
