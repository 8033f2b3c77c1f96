use Rattle.std.proofs.Common.{map, refl, sym, ap, ◌∙◌}
use Rattle.asl_model.specs.Records.{MissingField}
use Rattle.asl_tree.specs.View.{view}
use Rattle.asl_records.specs.Values.{value_in, value_there}
use Rattle.asl_records.specs.View.{complaint_view}
use Rattle.asl_records.proofs.Values.{value_found}
use Rattle.asl_complaints.proofs.Parts.{shape_absent, shape_lacking, shape_stated}
use Rattle.asl_complaints.proofs.Telling.{tells_as, tells_none, tells_on}
use Rattle.asl_complaints.proofs.records.Entry.tell_shape.Goals as goal

pub returns-in-Some : goal.returns-in-Some
returns-in-Some c =
    let name = c.args.self.now.name.now in
    let field = c.args.field.now in
    let entries = c.args.fields.now.entries in
    let found = value_found field entries c.member.result c.member.ensures in
    tells_on c.tell_spelling.result (map complaint_view c.args.told.now.items) (map complaint_view c.tell_spelling.new.told.items) _ _
    (shape_stated name field c.args.required (value_in field entries) (view c.in-Some.tree.now) (ap value_there (sym c.in-Some.is) ∙ found))
    c.tell_spelling.ensures

pub returns-in-None : goal.returns-in-None
returns-in-None c =
    let name = c.args.self.now.name.now in
    let field = c.args.field.now in
    let entries = c.args.fields.now.entries in
    let found = value_found field entries c.member.result c.member.ensures in
    tells_on c.tell.result (map complaint_view c.args.told.now.items) (map complaint_view c.tell.new.told.items) _ _
    (shape_lacking name field c.args.required (value_in field entries) (ap value_there (sym c.in-None.is) ∙ found) c.if-required.true)
    (c.tell.ensures MissingField refl)

pub returns-in-None-2 : goal.returns-in-None-2
returns-in-None-2 c =
    let name = c.args.self.now.name.now in
    let field = c.args.field.now in
    let entries = c.args.fields.now.entries in
    let found = value_found field entries c.member.result c.member.ensures in
    tells_as (shape_absent name field c.args.required (value_in field entries) (ap value_there (sym c.in-None.is) ∙ found) c.if-required.false)
    (tells_none (map complaint_view c.args.told.now.items))
