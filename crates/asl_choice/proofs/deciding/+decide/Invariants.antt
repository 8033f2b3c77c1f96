use Rattle.std.proofs.Common.{◌≡◌, drop}
use Rattle.asl_model.specs.Test.{all_true, some_true}
use Rattle.asl_choice.specs.View.{tests_view}
use Rattle.asl_tree.specs.View as trees
use Rattle.asl_choice.proofs.deciding.+decide.Given as goal

abbrev pub invariant-all_true-loop-test : goal.invariant-all_true-loop-test
invariant-all_true-loop-test l =
    all_true (tests_view l.tests) (trees.view l.input) ≡ all_true (tests_view (drop l.test-index l.tests)) (trees.view l.input)

abbrev pub invariant-some_true-loop-test : goal.invariant-some_true-loop-test
invariant-some_true-loop-test l =
    some_true (tests_view l.tests) (trees.view l.input) ≡ some_true (tests_view (drop l.test-index l.tests)) (trees.view l.input)
