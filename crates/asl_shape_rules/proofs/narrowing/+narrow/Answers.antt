use Rattle.std.proofs.Common.{Some, None, string_bytes, length, ◌∙◌, arith}
use Rattle.asl_model.specs.ShapeFlow.{where_present}
use Rattle.asl_numbered.specs.Expansion.{shape_at, shapes_at, fields_at}
use Rattle.asl_numbered.specs.TakenApart.{simple_of, arrays_over, objects_over}
use Rattle.asl_numbered.specs.Laws.{kept_within}
use Rattle.asl_path.specs.View.{segments_view}
use Rattle.asl_shape_paths.proofs.Shown.{shows_equal}
use Rattle.asl_shape_paths.proofs.KindNumbers.{objects_shown, objects_within, arrays_shown, arrays_within}
use Rattle.asl_shape_rules.proofs.NarrowedParts.{place_found, place_within, mention_found, field_within, narrowed_list, same_list, narrowed_object, widened_object, closed_object}
use Rattle.asl_shape_rules.proofs.narrowing.+narrow.Goals as goal
use Rattle.asl_shape_paths.proofs.NumberedParts.{got_under}

-- ---- a field of the objects

pub narrow_field-narrow_to_present-requires : goal.narrow_field-narrow_to_present-requires
narrow_field-narrow_to_present-requires t c =
    let objects = c.in-Some-objects.objects in
    let within = objects_within c.args.shapes.now c.in-Some.kinds _ c.in-Some.ensures.within c.in-Some.ensures.shown objects c.in-Some-objects.is in
    (omega (arith, c.decreases), field_within c.args.name.now objects.fields.now c.get.result c.copied.result (got_under objects.fields.now c.as_str.ensures.value c.get.ensures.value) c.copied.ensures (length c.args.shapes.now) c.in-Some-copied.field c.in-Some-copied.is within.fields)

pub narrow_field-put_field-requires-clause-number : goal.narrow_field-put_field-requires-clause-number
narrow_field-put_field-requires-clause-number t c =
    kept_within c.args.shapes.now c.narrow_to_present.new.shapes c.args.number c.in_ok-narrowed-in-Some-copied.ensures.keeps c.requires.number

pub narrow_field-returns-in_ok-narrowed-in-Some-copied-clause-shown :
    goal.narrow_field-returns-in_ok-narrowed-in-Some-copied-clause-shown
narrow_field-returns-in_ok-narrowed-in-Some-copied-clause-shown t c =
    let table = c.args.shapes.now in
    let kinds = c.in-Some.kinds in
    let objects = c.in-Some-objects.objects in
    let field = c.in-Some-copied.field in
    let go_on = where_present (segments_view c.args.rest.now) in
    let own = objects_shown c.args.shapes.now kinds _ c.in-Some.ensures.within c.in-Some.ensures.shown objects c.in-Some-objects.is in
    let found = mention_found c.args.name.now objects.fields.now c.get.result c.copied.result (got_under objects.fields.now c.as_str.ensures.value c.get.ensures.value) c.copied.ensures table (Some field) c.in-Some-copied.is in
    let narrowed = narrowed_object go_on c.args.shapes.now c.narrow_to_present.new.shapes c.args.number c.in_ok-narrowed-in-Some-copied.narrowed c.requires.number c.in_ok-narrowed-in-Some-copied.ensures.keeps (simple_of kinds) (string_bytes c.args.name.now) field.shape field.needed (arrays_over table kinds.arrays) (fields_at table objects.fields.now.entries) objects.extra own found c.in_ok-narrowed-in-Some-copied.ensures.shown in
    shows_equal c.put_field.new.shapes _ _ c.put_field.result narrowed c.put_field.ensures.shown

pub narrow_field-put_field-requires-in-None-clause-number :
    goal.narrow_field-put_field-requires-in-None-clause-number
narrow_field-put_field-requires-in-None-clause-number t c =
    kept_within c.args.shapes.now c.put_node.new.shapes c.args.number c.in_ok-any-in-None.ensures.keeps c.requires.number

pub narrow_field-returns-in_ok-any-in-None-clause-shown :
    goal.narrow_field-returns-in_ok-any-in-None-clause-shown
narrow_field-returns-in_ok-any-in-None-clause-shown t c =
    let table = c.args.shapes.now in
    let kinds = c.in-Some.kinds in
    let objects = c.in-Some-objects.objects in
    let go_on = where_present (segments_view c.args.rest.now) in
    let own = objects_shown c.args.shapes.now kinds _ c.in-Some.ensures.within c.in-Some.ensures.shown objects c.in-Some-objects.is in
    let none = mention_found c.args.name.now objects.fields.now c.get.result c.copied.result (got_under objects.fields.now c.as_str.ensures.value c.get.ensures.value) c.copied.ensures table None c.in-None.is in
    let widened = widened_object go_on c.args.shapes.now c.put_node.new.shapes c.args.number c.in_ok-any-in-None.any c.requires.number c.in_ok-any-in-None.ensures.keeps (simple_of kinds) (string_bytes c.args.name.now) (arrays_over table kinds.arrays) (fields_at table objects.fields.now.entries) objects.extra own c.if-objects.true none c.in_ok-any-in-None.ensures.shown in
    shows_equal c.put_field-in-None.new.shapes _ _ c.put_field-in-None.result widened c.put_field-in-None.ensures.shown

pub narrow_field-returns-in-None-2-clause-shown : goal.narrow_field-returns-in-None-2-clause-shown
narrow_field-returns-in-None-2-clause-shown t c =
    let table = c.args.shapes.now in
    let kinds = c.in-Some.kinds in
    let objects = c.in-Some-objects.objects in
    let go_on = where_present (segments_view c.args.rest.now) in
    let own = objects_shown c.args.shapes.now kinds _ c.in-Some.ensures.within c.in-Some.ensures.shown objects c.in-Some-objects.is in
    let none = mention_found c.args.name.now objects.fields.now c.get.result c.copied.result (got_under objects.fields.now c.as_str.ensures.value c.get.ensures.value) c.copied.ensures table None c.in-None-2.is in
    let closed = closed_object go_on (string_bytes c.args.name.now) (simple_of kinds) (arrays_over table kinds.arrays) (fields_at table objects.fields.now.entries) objects.extra _ own c.if-objects.false none in
    shows_equal c.put_never-in-None-2.new.shapes _ _ c.put_never-in-None-2.result closed c.put_never-in-None-2.ensures.shown

-- ---- a place of the lists

pub narrow_place-narrow_to_present-requires : goal.narrow_place-narrow_to_present-requires
narrow_place-narrow_to_present-requires t c =
    let arrays = c.in-Some-arrays.arrays in
    let within = arrays_within c.args.shapes.now c.in-Some.kinds _ c.in-Some.ensures.within c.in-Some.ensures.shown arrays c.in-Some-arrays.is in
    (omega (arith, c.decreases), place_within arrays.first.now c.args.index c.get.result c.copied.result c.get.ensures.lookup.0 c.get.ensures.lookup.1 c.copied.ensures (length c.args.shapes.now) c.in-Some-copied.place c.in-Some-copied.is within.first)

pub narrow_place-put_place-requires-clause-number :
    goal.narrow_place-put_place-requires-clause-number
narrow_place-put_place-requires-clause-number t c =
    kept_within c.args.shapes.now c.narrow_to_present.new.shapes c.args.number c.in_ok-narrowed-in-Some-copied.ensures.keeps c.requires.number

pub narrow_place-returns-in_ok-narrowed-in-Some-copied-clause-shown :
    goal.narrow_place-returns-in_ok-narrowed-in-Some-copied-clause-shown
narrow_place-returns-in_ok-narrowed-in-Some-copied-clause-shown t c =
    let table = c.args.shapes.now in
    let kinds = c.in-Some.kinds in
    let arrays = c.in-Some-arrays.arrays in
    let go_on = where_present (segments_view c.args.rest.now) in
    let own = arrays_shown c.args.shapes.now kinds _ c.in-Some.ensures.within c.in-Some.ensures.shown arrays c.in-Some-arrays.is in
    let found = place_found arrays.first.now c.args.index c.get.result c.copied.result c.get.ensures.lookup.0 c.get.ensures.lookup.1 c.copied.ensures table (Some c.in-Some-copied.place) c.in-Some-copied.is in
    let narrowed = narrowed_list go_on c.args.shapes.now c.narrow_to_present.new.shapes c.args.number c.in_ok-narrowed-in-Some-copied.narrowed c.requires.number c.in_ok-narrowed-in-Some-copied.ensures.keeps (simple_of kinds) c.args.index c.in-Some-copied.place (shapes_at table arrays.first.now) (shape_at table arrays.rest) (objects_over table kinds.objects) own found c.in_ok-narrowed-in-Some-copied.ensures.shown in
    shows_equal c.put_place.new.shapes _ _ c.put_place.result narrowed c.put_place.ensures.shown

pub narrow_place-returns-in-None-clause-shown : goal.narrow_place-returns-in-None-clause-shown
narrow_place-returns-in-None-clause-shown t c =
    let table = c.args.shapes.now in
    let kinds = c.in-Some.kinds in
    let arrays = c.in-Some-arrays.arrays in
    let go_on = where_present (segments_view c.args.rest.now) in
    let own = arrays_shown c.args.shapes.now kinds _ c.in-Some.ensures.within c.in-Some.ensures.shown arrays c.in-Some-arrays.is in
    let within = arrays_within c.args.shapes.now kinds _ c.in-Some.ensures.within c.in-Some.ensures.shown arrays c.in-Some-arrays.is in
    let none = place_found arrays.first.now c.args.index c.get.result c.copied.result c.get.ensures.lookup.0 c.get.ensures.lookup.1 c.copied.ensures table None c.in-None.is in
    record { within = within.within; same = within.alone ∙ same_list go_on c.args.index (simple_of kinds) (shapes_at table arrays.first.now) (shape_at table arrays.rest) (objects_over table kinds.objects) _ own none }
