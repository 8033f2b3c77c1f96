use Rattle.std.proofs.Common.{◌≡◌, map}
use Rattle.asl_tree.specs.View as trees
use Rattle.asl_intrinsic.specs.Answer.{value_view}
use Rattle.asl_intrinsic.proofs.functions.array.Given as goal

abbrev pub invariant-loop-value : goal.invariant-loop-value
invariant-loop-value l = map value_view l.yielded ≡ map trees.view l.elements.items
