use Rattle.std.proofs.Common.{◌≡◌, true, false, not, map, codes, rules, ap, sym, ◌∙◌}
use Rattle.asl_model.specs.Tree as json
use Rattle.asl_tree.specs.View as trees
use Rattle.asl_tree.specs.declared.Tree as tree
use Rattle.asl_shape.specs.Adding.{some_listed, with_field_if}
use Rattle.asl_shape.specs.WrittenKinds.{are_closed, names_of}
use Rattle.asl_shape.proofs.Views.{view_truth}
use Rattle.asl_shape.proofs.Writings.{types_named, keywords_made, kinds_tree}
use Rattle.asl_shape.proofs.writing.write_kinds.Goals as goal

pub returns : goal.returns
returns c =
    let written = c.args.written in
    let names = c.in_ok-names.names in
    let named : map trees.view names.items ≡ map json.Text (names_of written) = c.in_ok-names.ensures ∙ types_named written in
    let listed : not c.is_empty.result ≡ some_listed names.items = search rules in
    let some : some_listed names.items ≡ true = sym listed ∙ ap not c.if-is_empty.false in
    let closed = ap (λ b. with_field_if b (codes "additionalProperties") (trees.view (tree.Bool false)) (trees.entries_view c.add_arrays.new.keywords.entries)) c.is_closed-closed.ensures in
    let plain = ap (λ t. with_field_if (are_closed written.objects) (codes "additionalProperties") t (trees.entries_view c.add_arrays.new.keywords.entries)) (view_truth false) in
    let made = keywords_made (are_closed written.objects) (names_of written) written.arrays written.objects _ _ _ _ (c.in_ok-keywords.ensures (names_of written) named) c.in_ok-add_objects.ensures c.in_ok-add_arrays.ensures (c.in_ok-add_if.ensures ∙ closed ∙ plain) in
    record { written = kinds_tree names.items (names_of written) (are_closed written.objects) _ c.add_if.new.keywords some named made }
