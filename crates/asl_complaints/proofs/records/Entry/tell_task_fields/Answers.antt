use Rattle.std.proofs.Common.{◌++◌, codes, map, true, false}
use Rattle.asl_model.specs.Records.{declared_reading, object_complaints, task_rows}
use Rattle.serde_json.specs.Data.{object}
use Rattle.asl_records.specs.Parts.{foreign_complaints}
use Rattle.asl_records.specs.View.{complaint_view}
use Rattle.asl_records.proofs.Objects.{names_of}
use Rattle.asl_complaints.proofs.Parts.{members, of_shape, task_parts}
use Rattle.asl_complaints.proofs.Telling.{tells_behind, tells_on}
use Rattle.asl_complaints.proofs.records.Entry.tell_task_fields.Goals as goal

pub returns : goal.returns
returns c =
    let name = c.args.self.now.name.now in
    let ms = members c.args.fields.now.entries in
    let result = c.tell_foreign.result in
    let a = map complaint_view c.args.told.now.items in
    let b = map complaint_view c.tell_shape.new.told.items in
    let d = map complaint_view c.tell_shape-2.new.told.items in
    let e = map complaint_view c.tell_foreign.new.told.items in
    let takes = of_shape name (codes "takes") false ms in
    let gives = of_shape name (codes "gives") true ms in
    let others = foreign_complaints name (names_of task_rows) ms in
    tells_on result a e _ (object_complaints declared_reading name task_rows (object ms)) (task_parts name ms)
    (tells_behind result a b e takes (gives ++ others) c.in_ok-tell_shape.ensures
    (tells_behind result b d e gives others c.in_ok-tell_shape-2.ensures c.tell_foreign.ensures))
