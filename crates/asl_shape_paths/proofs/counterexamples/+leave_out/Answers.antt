use Rattle.std.proofs.Common.{◌≡◌, Some, IfOk, string_bytes, refl, ap, sym, subst, ◌∙◌, rules, arith}
use Rattle.asl_model.proofs.ShapeExample.{proper-ordered}
use Rattle.asl_model.specs.Path.{Name}
use Rattle.asl_model.specs.Tree.{Object}
use Rattle.asl_numbered.specs.Expansion.{shape_at}
use Rattle.asl_path.proofs.Fields.{slice_set-set_element}
use Rattle.asl_path.proofs.Lent.{lent_field, no_field, written_field, lent_element}
use Rattle.asl_path.proofs.Nodes.{first_and_rest}
use Rattle.asl_path.specs.View.{segment_view, segments_view}
use Rattle.asl_tree.specs.declared.Tree.{the_lemmas}
use Rattle.asl_tree.specs.View.{view, elements_view, entries_view}
use Rattle.asl_shape_paths.specs.Counterexamples.{missing_under}
use Rattle.asl_shape_paths.proofs.MissingTrees.{refused_behind, example_behind, missing_in_field, missing_in_element, element_there, lent_example, fewer_behind, if_there, same_made}
use Rattle.asl_shape_paths.proofs.counterexamples.+leave_out.Goals as goal

pub leave_out-leave_out_behind-requires : goal.leave_out-leave_out_behind-requires
leave_out-leave_out_behind-requires t c =
    let segments = c.args.segments.now in
    let segment = segment_view c.segment-item.result in
    let whole = first_and_rest segments c.segment-item.result segment c.in-len1-up.len_at_least c.segment-item.is refl in
    let s = shape_at c.args.shapes.now c.args.number in
    let part = shape_at c.args.shapes.now c.in-Some.part in
    let ordered = proper-ordered s (c.are_proper.ensures.proper c.args.number) in
    let refused = refused_behind (segments_view segments) _ segment whole s part c.in-Some.ensures.part c.requires.refused in
    let given = example_behind (segments_view segments) _ segment whole s part c.in-Some.ensures.part (view c.args.tree.now) ordered c.requires.given in
    (omega (arith, c.decreases, fewer_behind segments c.in-len1-up.len_at_least), (c.in-Some.ensures.within, (refused, given)))

pub leave_out_behind-returns-in-Object-clause-missing : goal.leave_out_behind-returns-in-Object-clause-missing
leave_out_behind-returns-in-Object-clause-missing t c =
    let name = Name (string_bytes c.in-Name.name) in
    let rest = segments_view c.args.rest.now in
    let part = shape_at c.args.shapes.now c.args.part in
    let old = Object (entries_view c.in-Object.fields.entries) in
    let new = Object (entries_view c.leave_out_of_field.new.fields.entries) in
    let made = subst (λ fields. IfOk c.leave_out_of_field.result (λ x. missing_under name rest part (Object (entries_view fields.entries)) ≡ Some new)) c.in-Object.fields-is c.leave_out_of_field.ensures.missing in
    same_made c.leave_out_of_field.result (segment_view c.args.segment.now) name rest part (view c.args.tree.now) old _ new (ap segment_view c.in-Name.is) (search (rules, the_lemmas)) (search (rules, the_lemmas)) made

pub leave_out_of_element-index_mut-requires : goal.leave_out_of_element-index_mut-requires
leave_out_of_element-index_mut-requires t c =
    let within = element_there c.args.elements.now.items c.args.index _ c.requires.given.there in
    omega (arith, c.args.elements.now.ok.0)

pub leave_out_of_element-leave_out-requires : goal.leave_out_of_element-leave_out-requires
leave_out_of_element-leave_out-requires t c =
    let ts = c.args.elements.now.items in
    let x = c.index_mut.result in
    let found = lent_element c.args.index ts x (element_there ts c.args.index _ c.requires.given.there) c.index_mut.ensures.value in
    (omega (arith, c.decreases), (c.requires.part, (c.requires.refused, lent_example (shape_at c.args.shapes.now c.args.part) _ (view x.now) c.requires.given.some c.requires.given.there found)))

pub leave_out_of_element-returns-clause-missing : goal.leave_out_of_element-returns-clause-missing
leave_out_of_element-returns-clause-missing t c =
    let ts = c.args.elements.now.items in
    let x = c.index_mut.result in
    let w = c.leave_out.new.tree in
    let found = lent_element c.args.index ts x (element_there ts c.args.index _ c.requires.given.there) c.index_mut.ensures.value in
    if_there c.leave_out.result (λ made. missing_in_element (segments_view c.args.rest.now) (shape_at c.args.shapes.now c.args.part) (view w) made c.args.index (view x.now) (elements_view ts) _ found (slice_set-set_element ts c.args.index w)) c.leave_out.ensures.missing

pub leave_out_of_field-unreachable-requires : goal.leave_out_of_field-unreachable-requires
leave_out_of_field-unreachable-requires t c =
    let none = no_field (string_bytes c.args.name.now) c.as_str.result.now c.args.fields.now.entries c.get_mut.result c.as_str.ensures.value c.get_mut.ensures.value c.in_default.is in
    let there = sym none ∙ c.requires.given.there in
    absurd (cc)

pub leave_out_of_field-leave_out-requires : goal.leave_out_of_field-leave_out-requires
leave_out_of_field-leave_out-requires t c =
    let x = c.in-Some.field in
    let found = lent_field (string_bytes c.args.name.now) c.as_str.result.now c.args.fields.now.entries c.get_mut.result x c.as_str.ensures.value c.get_mut.ensures.value c.in-Some.is in
    (omega (arith, c.decreases), (c.requires.part, (c.requires.refused, lent_example (shape_at c.args.shapes.now c.args.part) _ (view x.now) c.requires.given.some c.requires.given.there found)))

pub leave_out_of_field-returns-clause-missing : goal.leave_out_of_field-returns-clause-missing
leave_out_of_field-returns-clause-missing t c =
    let name = string_bytes c.args.name.now in
    let es = c.args.fields.now.entries in
    let w = c.leave_out.new.tree in
    let written = written_field name c.as_str.result.now es _ c.get_mut.result c.in-Some.field w c.as_str.ensures.value c.get_mut.ensures.value c.in-Some.is c.get_mut.ensures.ordered (c.get_mut.follows.holds w).0 in
    if_there c.leave_out.result (λ made. missing_in_field (segments_view c.args.rest.now) (shape_at c.args.shapes.now c.args.part) (view w) made name (entries_view es) _ written) c.leave_out.ensures.missing
