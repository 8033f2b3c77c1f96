use Rattle.std.proofs.Common.{◌++◌, codes, map, true}
use Rattle.asl_model.specs.Records.{declared_complaints, declared_rows}
use Rattle.serde_json.specs.Data.{object}
use Rattle.asl_records.specs.Parts.{foreign_complaints}
use Rattle.asl_records.specs.Values.{value_there}
use Rattle.asl_records.specs.View.{complaint_view}
use Rattle.asl_records.proofs.Objects.{names_of}
use Rattle.asl_records.proofs.Values.{value_found}
use Rattle.asl_complaints.proofs.Parts.{declared_parts, members, of_entries, of_shape, of_tasks}
use Rattle.asl_complaints.proofs.Telling.{tells_behind, tells_on}
use Rattle.asl_complaints.proofs.records.tell_fields.Goals as goal

pub returns : goal.returns
returns c =
    let name = c.args.whole.now.name.now in
    let entries = c.args.fields.now.entries in
    let ms = members entries in
    let tasks = value_there c.member-tasks.result in
    let result = c.tell_tasks.result in
    let a = map complaint_view c.args.told.now.items in
    let b = map complaint_view c.tell_shape.new.told.items in
    let d = map complaint_view c.tell_kind_of_tasks.new.told.items in
    let e = map complaint_view c.tell_foreign.new.told.items in
    let f = map complaint_view c.tell_tasks.new.told.items in
    let others = foreign_complaints name (names_of declared_rows) ms in
    tells_on result a f _ (declared_complaints (object ms)) (declared_parts name ms tasks c.requires.whole (value_found (codes "tasks") entries c.member-tasks.result c.member-tasks.ensures))
    (tells_behind result a b f (of_shape name (codes "input") true ms) (of_tasks name tasks ++ (others ++ of_entries tasks)) c.in_ok-tell_shape.ensures
    (tells_behind result b d f (of_tasks name tasks) (others ++ of_entries tasks) c.in_ok-tell_kind_of_tasks.ensures
    (tells_behind result d e f others (of_entries tasks) c.in_ok-tell_foreign.ensures c.tell_tasks.ensures)))
