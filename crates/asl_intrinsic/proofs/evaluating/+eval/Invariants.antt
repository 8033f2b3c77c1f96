use Rattle.std.proofs.Common.{◌≡◌, take, map, Some}
use Rattle.asl_model.specs.Intrinsic.{argument_value, literal_pieces}
use Rattle.asl_tree.specs.View as trees
use Rattle.asl_intrinsic.specs.Answer.{literal_in, value_view}
use Rattle.asl_intrinsic.specs.View.{argument_view, arguments_view, at_hand}
use Rattle.asl_intrinsic.proofs.evaluating.+eval.Given as goal

abbrev pub invariant-argument_values-loop-argument : goal.invariant-argument_values-loop-argument
invariant-argument_values-loop-argument l =
    (map (λ a. argument_value (argument_view a) (trees.view l.input) (at_hand l.item)) (take l.argument-index l.arguments) ≡ map (λ v. Some (value_view v)) l.values.items)
    × (literal_in l.values.items ≡ literal_pieces (arguments_view (take l.argument-index l.arguments)))
