use Rattle.std.proofs.Common.{◌≡◌, map, take, drop}
use Rattle.asl_model.specs.RuleSpelling.{each_faults, test_of}
use Rattle.asl_tree.specs.Values.{tree_in, elements_in}
use Rattle.asl_choice.specs.View.{view}
use Rattle.asl_choice.proofs.reading.+read.Given as goal

abbrev pub invariant-read_elements-loop-element : goal.invariant-read_elements-loop-element
invariant-read_elements-loop-element l =
    (each_faults (elements_in l.elements) ≡ each_faults (elements_in (drop l.element-index l.elements)))
    × (map view l.tests.items ≡ map (λ t. test_of (tree_in t)) (take l.element-index l.elements))
