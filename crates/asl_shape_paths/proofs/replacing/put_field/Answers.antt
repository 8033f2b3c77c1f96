use Rattle.std.proofs.Common.{◌≡◌, ◌∙◌, Some, ap, sym, length, option_map, rules, string_bytes}
use Rattle.asl_numbered.specs.Expansion.{shape_at, fields_at}
use Rattle.asl_shape_paths.proofs.Replaced.{field_refers}
use Rattle.asl_shape_paths.proofs.Stays.{field_stays}
use Rattle.asl_shape_paths.proofs.replacing.put_field.Goals as goal

pub put_node-requires-clause-refers : goal.put_node-requires-clause-refers
put_node-requires-clause-refers c =
    let objects = c.in-Some.objects in
    field_refers (length c.args.shapes.now) c.args.field (string_bytes c.args.name.now) objects.fields.now.entries c.in_ok-fields.fields objects.extra c.in-Some.ensures.within.fields c.requires.field c.in_ok-fields.ensures

pub returns-then-eq-clause-shown : goal.returns-then-eq-clause-shown
returns-then-eq-clause-shown c =
    let table = c.args.shapes.now in
    let objects = c.in-Some.objects in
    let is : c.needed_field.result ≡ Some c.args.field = search rules in
    let named = sym (c.needed_field.ensures.part table) ∙ ap (option_map (shape_at table)) is in
    let stays = field_stays (string_bytes c.args.name.now) (shape_at table c.args.field) (shape_at table c.args.number) (fields_at table objects.fields.now.entries) objects.extra (c.are_proper.ensures.proper c.args.number) (sym c.in-Some.ensures.shown) named in
    record { within = c.in-Some.ensures.within.within; same = c.in-Some.ensures.within.alone ∙ stays }
