use Rattle.std.proofs.Common.{string_bytes, ap, rules, arith}
use Rattle.asl_model.specs.Path.{Name, Index}
use Rattle.asl_tree.specs.declared.Tree.{the_lemmas}
use Rattle.asl_tree.specs.View.{view, elements_view, entries_view}
use Rattle.asl_path.specs.View.{segment_view, segments_view}
use Rattle.asl_path.proofs.Fields.{slice_set-set_element}
use Rattle.asl_path.proofs.Lent.{lent_field, no_field, written_field, lent_element}
use Rattle.asl_path.proofs.Nodes.{first_and_rest}
use Rattle.asl_path.proofs.Room.{named_in_field, field_is_there, filled_in_field, named_in_element, index_within, filled_in_element, same_placed}
use Rattle.asl_path.proofs.placing.+fill.Goals as goal

pub fill_element-index_mut-requires : goal.fill_element-index_mut-requires
fill_element-index_mut-requires t c =
    let within = index_within c.args.elements.now.items c.args.index (segments_view c.args.rest.now) c.requires in
    omega (arith, c.args.elements.now.ok.0)

pub fill_element-fill-requires : goal.fill_element-fill-requires
fill_element-fill-requires t c =
    let i = c.args.index in
    let ts = c.args.elements.now.items in
    let p = segments_view c.args.rest.now in
    let x = c.index_mut.result in
    let found = lent_element i ts x (index_within ts i p c.requires) c.index_mut.ensures.value in
    (omega (arith, c.decreases), named_in_element i p (view x.now) (elements_view ts) found c.requires)

pub fill_element-returns : goal.fill_element-returns
fill_element-returns t c =
    let i = c.args.index in
    let ts = c.args.elements.now.items in
    let p = segments_view c.args.rest.now in
    let x = c.index_mut.result in
    let w = c.fill.new.tree in
    let found = lent_element i ts x (index_within ts i p c.requires) c.index_mut.ensures.value in
    filled_in_element i p (view c.args.value) (view x.now) (view w) (elements_view ts) _ found (slice_set-set_element ts i w) c.fill.ensures

pub fill_field-unreachable-requires : goal.fill_field-unreachable-requires
fill_field-unreachable-requires t c =
    let name = string_bytes c.args.name.now in
    let es = c.args.fields.now.entries in
    field_is_there name (segments_view c.args.rest.now) (entries_view es) c.requires (no_field name c.as_str.result.now es c.get_mut.result c.as_str.ensures.value c.get_mut.ensures.value c.in_default.is)

pub fill_field-fill-requires : goal.fill_field-fill-requires
fill_field-fill-requires t c =
    let name = string_bytes c.args.name.now in
    let es = c.args.fields.now.entries in
    let x = c.in-Some.field in
    let found = lent_field name c.as_str.result.now es c.get_mut.result x c.as_str.ensures.value c.get_mut.ensures.value c.in-Some.is in
    (omega (arith, c.decreases), named_in_field name (segments_view c.args.rest.now) (view x.now) (entries_view es) found c.requires)

pub fill_field-returns : goal.fill_field-returns
fill_field-returns t c =
    let name = string_bytes c.args.name.now in
    let es = c.args.fields.now.entries in
    let key = c.as_str.result.now in
    let r = c.get_mut.result in
    let x = c.in-Some.field in
    let w = c.fill.new.tree in
    let found = lent_field name key es r x c.as_str.ensures.value c.get_mut.ensures.value c.in-Some.is in
    let written = written_field name key es _ r x w c.as_str.ensures.value c.get_mut.ensures.value c.in-Some.is c.get_mut.ensures.ordered (c.get_mut.follows.holds w).0 in
    filled_in_field name (segments_view c.args.rest.now) (view c.args.value) (view x.now) (view w) (entries_view es) _ found written c.fill.ensures

pub fill-returns-in-Object : goal.fill-returns-in-Object
fill-returns-in-Object t c =
    let path = first_and_rest c.args.steps.now c.step-item.result (Name (string_bytes c.in-Name.name)) c.in-len1-up.len_at_least c.step-item.is (ap segment_view c.in-Name.is) in
    same_placed path (search (rules, the_lemmas)) (search (rules, the_lemmas)) c.fill_field.ensures

pub fill-returns-in-List : goal.fill-returns-in-List
fill-returns-in-List t c =
    let path = first_and_rest c.args.steps.now c.step-item.result (Index c.in-Index.index) c.in-len1-up.len_at_least c.step-item.is (ap segment_view c.in-Index.is) in
    same_placed path (search (rules, the_lemmas)) (search (rules, the_lemmas)) c.fill_element.ensures
