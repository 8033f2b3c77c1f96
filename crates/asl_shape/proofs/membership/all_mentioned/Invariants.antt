use Rattle.std.proofs.Common.{◌≡◌}
use Rattle.asl_model.specs.Shape as model
use Rattle.asl_shape.specs.View.{fields_view}
use Rattle.asl_tree.specs.View as trees
use Rattle.asl_shape.proofs.membership.all_mentioned.Given as goal

abbrev pub invariant-loop-name : goal.invariant-loop-name
invariant-loop-name l =
    model.all_mentioned (fields_view l.fields.entries) (trees.entries_view l.members.entries)
    ≡ model.all_mentioned (fields_view l.fields.entries) (trees.entries_view l.name-iterator)
