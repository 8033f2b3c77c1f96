use Rattle.std.proofs.Common.{option_map, ap, ◌∙◌}
use Rattle.asl_model.specs.Tree.{element, field_named}
use Rattle.asl_tree.specs.View.{view, elements_view, entries_view}
use Rattle.asl_path.proofs.Nodes.{view_of_ref, view-lookup, view-get, field_child, element_child}
use Rattle.asl_path.proofs.finding.child.Goals as goal

pub returns-in-Object-Name : goal.returns-in-Object-Name
returns-in-Object-Name c =
    let s = c.in-Object-Name in
    view_of_ref c.get.result ∙ ap (option_map view) c.get.ensures.value ∙ view-lookup c.as_str.result.now s.fields.entries
    ∙ ap (λ n. field_named n (entries_view s.fields.entries)) c.as_str.ensures.value ∙ field_child c.args.tree.now s.fields c.args.segment.now s.name s.is-0 s.is-1

pub returns-in-List-Index : goal.returns-in-List-Index
returns-in-List-Index c =
    let s = c.in-List-Index in
    let got = c.get-in-List-Index in
    view-get c.deref.result.now s.index got.result got.ensures.lookup.0 got.ensures.lookup.1
    ∙ ap (λ ts. element s.index (elements_view ts)) c.deref.ensures.value ∙ element_child c.args.tree.now s.elements c.args.segment.now s.index s.is-0 s.is-1
