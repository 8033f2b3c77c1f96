use Rattle.std.proofs.Common.{string_bytes, refl, ap, rules, arith}
use Rattle.asl_model.specs.Path.{Name, Index}
use Rattle.asl_tree.specs.declared.Tree.{the_lemmas}
use Rattle.asl_tree.specs.View.{view, elements_view, entries_view}
use Rattle.asl_path.specs.View.{segment_view, segments_view}
use Rattle.asl_path.proofs.Fields.{slice_set-set_element}
use Rattle.asl_path.proofs.Lent.{lent_field, no_field, written_field, rewritten_field, lent_element}
use Rattle.asl_path.proofs.Nodes.{element_past, first_and_rest}
use Rattle.asl_path.proofs.Room.{past_the_end, room_made_in_element, room_made_in_field, same_room_made}
use Rattle.asl_path.proofs.placing.+make_room.Goals as goal

pub make_room-returns-in-Object : goal.make_room-returns-in-Object
make_room-returns-in-Object t c =
    let path = first_and_rest c.args.steps.now c.step-item.result (Name (string_bytes c.in-Name.name)) c.in-len1-up.len_at_least c.step-item.is (ap segment_view c.in-Name.is) in
    same_room_made _ path (search (rules, the_lemmas)) (search (rules, the_lemmas)) c.make_room_in_field.ensures

pub make_room-returns-in-List : goal.make_room-returns-in-List
make_room-returns-in-List t c =
    let path = first_and_rest c.args.steps.now c.step-item.result (Index c.in-Index.index) c.in-len1-up.len_at_least c.step-item.is (ap segment_view c.in-Index.is) in
    same_room_made _ path (search (rules, the_lemmas)) (search (rules, the_lemmas)) c.make_room_in_element.ensures

pub make_room_in_element-returns-in-Some : goal.make_room_in_element-returns-in-Some
make_room_in_element-returns-in-Some t c =
    let i = c.args.index in
    let ts = c.args.elements.now.items in
    let x = c.in-Some.element in
    let w = c.make_room.new.tree in
    let found = lent_element i ts x (omega (arith, c.args.elements.now.ok.0, c.in-Some.ensures.variant.0 refl)) c.in-Some.ensures.value in
    room_made_in_element c.make_room.result i (segments_view c.args.rest.now) (view x.now) (view w) (elements_view ts) _ found (slice_set-set_element ts i w) c.make_room.ensures

pub make_room_in_element-returns-in-None : goal.make_room_in_element-returns-in-None
make_room_in_element-returns-in-None t c =
    past_the_end c.args.index (segments_view c.args.rest.now) (elements_view c.args.elements.now.items) (element_past c.args.elements.now.items c.args.index c.in-None.ensures.item.3)

pub make_room_in_field-create_field-requires : goal.make_room_in_field-create_field-requires
make_room_in_field-create_field-requires t c =
    rw c.get_mut.follows.holds-at-none (no_field (string_bytes c.args.name.now) c.as_str.result.now c.args.fields.now.entries c.get_mut.result c.as_str.ensures.value c.get_mut.ensures.value c.in-None.is)

pub make_room_in_field-returns-in-Some : goal.make_room_in_field-returns-in-Some
make_room_in_field-returns-in-Some t c =
    let name = string_bytes c.args.name.now in
    let es = c.args.fields.now.entries in
    let key = c.as_str.result.now in
    let r = c.get_mut.result in
    let x = c.in-Some.field in
    let w = c.make_room.new.tree in
    let found = lent_field name key es r x c.as_str.ensures.value c.get_mut.ensures.value c.in-Some.is in
    let written = written_field name key es _ r x w c.as_str.ensures.value c.get_mut.ensures.value c.in-Some.is c.get_mut.ensures.ordered (c.get_mut.follows.holds w).0 in
    room_made_in_field c.make_room.result name (segments_view c.args.rest.now) (view x.now) (view w) (entries_view es) _ found written (rewritten_field key es _ r x w c.get_mut.ensures.value c.in-Some.is (c.get_mut.follows.holds w).0) c.make_room.ensures
