use Rattle.std.proofs.Common.{◌≡◌, not, rules}
use Rattle.asl_tree.specs.View as trees
use Rattle.asl_shape.specs.Adding.{some_listed}
use Rattle.asl_shape.proofs.Views.{view_array, view_members}
use Rattle.asl_shape.proofs.Writings.{objects_put}
use Rattle.asl_shape.proofs.writing.add_objects.Goals as goal

pub returns-in_ok-add_if-2 : goal.returns-in_ok-add_if-2
returns-in_ok-add_if-2 c =
    let objects = c.in-Some.objects in
    let mentioned : not c.is_empty-has_fields.result ≡ some_listed objects.properties.entries = search rules in
    let named : not c.is_empty-has_needed.result ≡ some_listed objects.required.items = search rules in
    rw c.in-Some.is (objects_put objects _ _ _ _ (trees.entries_view c.args.keywords.now.entries) (trees.entries_view c.add_if.new.keywords.entries) (trees.entries_view c.add_if-in-Some.new.keywords.entries) mentioned named (view_members objects.properties) (view_array objects.required) c.in_ok-add_if.ensures c.in_ok-add_if-2.ensures)
