use Rattle.std.proofs.Common.{◌≡◌, not, pos, length, rules, ap, ◌∙◌}
use Rattle.asl_model.specs.Tree as json
use Rattle.asl_tree.specs.View as trees
use Rattle.asl_shape.specs.Adding.{some_listed}
use Rattle.asl_shape.proofs.Views.{view_array}
use Rattle.asl_shape.proofs.Writings.{arrays_put, items_shown}
use Rattle.asl_shape.proofs.writing.add_arrays.Goals as goal

pub returns-in_ok-add_if-3 : goal.returns-in_ok-add_if-3
returns-in_ok-add_if-3 c =
    let arrays = c.in-Some.arrays in
    let some : not c.is_empty-has_first.result ≡ some_listed arrays.prefix_items.items = search rules in
    let number = c.counted-min_items.ensures ∙ ap (λ ts. json.Integer (pos (length ts))) c.deref.ensures.value in
    let items = ap trees.view c.unwrap_or-items.ensures ∙ items_shown arrays.items in
    rw c.in-Some.is (arrays_put arrays _ _ _ _ _ (trees.entries_view c.args.keywords.now.entries) (trees.entries_view c.add_if.new.keywords.entries) (trees.entries_view c.add_if-in-Some.new.keywords.entries) (trees.entries_view c.add_if-in-Some-2.new.keywords.entries) c.is_some-has_items.ensures some items (view_array arrays.prefix_items) number c.in_ok-add_if.ensures c.in_ok-add_if-2.ensures c.in_ok-add_if-3.ensures)
