use Rattle.std.proofs.Common.{◌≡◌, ◌-◌, sym, ap, ◌∙◌, subst, take, drop, rules, arith, length}
use Rattle.std.proofs.lemmas.List.{take_all}
use Rattle.asl_model.specs.Path.{Index}
use Rattle.asl_model.specs.Shape.{Never}
use Rattle.asl_model.specs.ShapeFlow.{put as put_shape, built_shape}
use Rattle.asl_shape_paths.specs.Counting.{counted_on}
use Rattle.asl_shape_paths.specs.Putting.{Answers}
use Rattle.asl_shape_paths.proofs.NumberedParts.{field_below, got_under}
use Rattle.asl_shape_paths.proofs.Puts.{answered_in_list, refused_in_object, answered_in_object, nothing_put, put_first, second_refused, both_joined, answered}
use Rattle.asl_numbered.specs.Expansion.{shape_at}
use Rattle.asl_numbered.specs.Laws.{kept_shape, kept_within}
use Rattle.asl_path.specs.View.{segment_view, segments_view}
use Rattle.asl_shape_paths.proofs.putting.+put.Goals as goal

pub put_in_list-put_place-requires-clause-number :
    goal.put_in_list-put_place-requires-clause-number
put_in_list-put_place-requires-clause-number t c = kept_within c.args.shapes.now c.put_segments.new.shapes c.args.number c.put_segments.ensures.keeps c.requires.number

pub put_in_list-returns-clause-answers : goal.put_in_list-returns-clause-answers
put_in_list-returns-clause-answers t c =
    let p = segments_view c.args.further.now in
    let w = shape_at c.args.shapes.now c.args.placed in
    answered_in_list c.args.shapes.now c.put_segments.new.shapes c.put_place.new.shapes c.args.at c.args.index (put_shape p w) p w c.args.number c.place_of.result c.in-Some.place c.in_ok-changed.changed c.in_ok-put_place.field-0
    c.requires.number c.put_segments.ensures.keeps c.place_of.ensures.part c.in-Some.is c.in_ok-changed.ensures.answers c.in_ok-put_place.ensures.shown

pub put_in_object-put_in_field-requires : goal.put_in_object-put_in_field-requires
put_in_object-put_in_field-requires t c =
    let objects = c.in-Some.objects in
    let there = field_below (length c.args.shapes.now) c.as_str.result.now objects.fields.now c.copied-field.result (c.copied-field.ensures ∙ c.get.ensures.value) c.in-Some.ensures.within.fields in
    (omega (arith, c.decreases), (there, (c.requires.placed, omega arith)))

pub put_in_object-returns-in_err-value-clause-answers :
    goal.put_in_object-returns-in_err-value-clause-answers
put_in_object-returns-in_err-value-clause-answers t c =
    let p = segments_view c.args.further.now in
    let table = c.args.shapes.now in
    let w = shape_at table c.args.placed in
    let s = shape_at table c.args.number in
    let objects = c.in-Some.objects in
    refused_in_object c.put_in_field.new.shapes c.args.at (put_shape p w) p w s table c.args.name.now objects.fields.now objects.extra c.copied-field.result c.in_err-value.field-0.0 c.from_residual.result (sym c.in-Some.ensures.shown) (got_under objects.fields.now c.as_str.ensures.value (c.copied-field.ensures ∙ c.get.ensures.value)) c.in_err-value.ensures.answers (search rules)

pub put_in_object-put_field-requires-clause-number :
    goal.put_in_object-put_field-requires-clause-number
put_in_object-put_field-requires-clause-number t c = kept_within c.args.shapes.now c.put_in_field.new.shapes c.args.number c.put_in_field.ensures.keeps c.requires.number

pub put_in_object-returns-clause-answers : goal.put_in_object-returns-clause-answers
put_in_object-returns-clause-answers t c =
    let p = segments_view c.args.further.now in
    let w = shape_at c.args.shapes.now c.args.placed in
    let objects = c.in-Some.objects in
    answered_in_object c.args.shapes.now c.put_in_field.new.shapes c.put_field.new.shapes c.args.at (put_shape p w) p w c.args.number c.args.name.now objects.fields.now objects.extra c.copied-field.result c.in_ok-value.value c.in_ok-put_field.field-0
    c.requires.number c.put_in_field.ensures.keeps (sym c.in-Some.ensures.shown) (got_under objects.fields.now c.as_str.ensures.value (c.copied-field.ensures ∙ c.get.ensures.value)) c.in_ok-value.ensures.answers c.in_ok-put_field.ensures.shown

pub put_in_optional-build-requires-clause-placed :
    goal.put_in_optional-build-requires-clause-placed
put_in_optional-build-requires-clause-placed t c = kept_within c.args.shapes.now c.put_segments.new.shapes c.args.placed c.put_segments.ensures.keeps c.requires.placed

pub put_in_optional-returns-in_err-built-clause-answers :
    goal.put_in_optional-returns-in_err-built-clause-answers
put_in_optional-returns-in_err-built-clause-answers t c =
    let p = segments_view c.args.segments.now in
    let w = shape_at c.args.shapes.now c.args.placed in
    let s = shape_at c.args.shapes.now c.args.number in
    let stays = kept_shape c.args.shapes.now c.put_segments.new.shapes c.args.placed c.put_segments.ensures.keeps c.requires.placed in
    second_refused c.put_segments.new.shapes c.build.new.shapes c.build.new.shapes c.args.at (put_shape p w s) (built_shape p w) c.in_ok-changed.changed c.in_err-built.field-0.0 c.from_residual-in_err-built.result c.in_ok-changed.ensures.answers (rw stays at c.in_err-built.ensures.answers) (search rules)

pub put_in_optional-put_join-requires-clause-first :
    goal.put_in_optional-put_join-requires-clause-first
put_in_optional-put_join-requires-clause-first t c = kept_within c.put_segments.new.shapes c.build.new.shapes c.in_ok-changed.changed c.build.ensures.keeps c.in_ok-changed.ensures.answers.within

pub put_in_optional-returns-clause-answers : goal.put_in_optional-returns-clause-answers
put_in_optional-returns-clause-answers t c =
    let p = segments_view c.args.segments.now in
    let w = shape_at c.args.shapes.now c.args.placed in
    let s = shape_at c.args.shapes.now c.args.number in
    let stays = kept_shape c.args.shapes.now c.put_segments.new.shapes c.args.placed c.put_segments.ensures.keeps c.requires.placed in
    let changed = kept_shape c.put_segments.new.shapes c.build.new.shapes c.in_ok-changed.changed c.build.ensures.keeps c.in_ok-changed.ensures.answers.within in
    both_joined c.put_segments.new.shapes c.build.new.shapes c.put_join.new.shapes c.args.at (put_shape p w s) (built_shape p w) c.in_ok-changed.changed c.in_ok-built.built c.in_ok-put_join.field-0 c.in_ok-changed.ensures.answers (rw stays at c.in_ok-built.ensures.answers) changed c.in_ok-put_join.ensures.shown

pub put_segments-returns-then-not-are_inhabited-clause-answers :
    goal.put_segments-returns-then-not-are_inhabited-clause-answers
put_segments-returns-then-not-are_inhabited-clause-answers t c =
    let table = c.args.shapes.now in
    let neither = sym c.are_inhabited.ensures.as_defined ∙ c.if-not-are_inhabited.true in
    answered c.put_never.new.shapes c.args.at _ Never _ (nothing_put (segments_view c.args.segments.now) (shape_at table c.args.placed) (shape_at table c.args.number) neither) (search rules)

pub put_segments-returns-in-Index-clause-answers :
    goal.put_segments-returns-in-Index-clause-answers
put_segments-returns-in-Index-clause-answers t c =
    let table = c.args.shapes.now in
    let both = sym c.are_inhabited.ensures.as_defined ∙ c.if-not-are_inhabited.false in
    let items = c.args.segments.now in
    let further : take (length items - 1) (drop 1 items) ≡ drop 1 items = search (rules, take_all) in
    let whole = put_first items _ c.segment-item.result (Index c.in-Index.index) (shape_at table c.args.placed) (shape_at table c.args.number) (omega (arith, c.in-len1-up.len_at_least)) further c.segment-item.is (ap segment_view c.in-Index.is) both in
    subst (λ r. Answers c.put_in_list.new.shapes (counted_on c.args.at r) c.put_in_list.result) whole c.put_in_list.ensures.answers
