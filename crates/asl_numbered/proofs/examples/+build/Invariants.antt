use Rattle.std.proofs.Common.{◌≡◌, ◌+◌, ◌*◌, List, ◌++◌, map, option_map, take, drop}
use Rattle.asl_model.specs.Examples.{needed_examples}
use Rattle.asl_tree.specs.View.{view, entries_view}
use Rattle.asl_numbered.specs.declared.node.NodeField.{NodeField}
use Rattle.asl_numbered.specs.Examples.{examples_at, without}
use Rattle.asl_numbered.specs.Expansion.{fields_at, numbers_in, AreBelow}
use Rattle.asl_numbered.proofs.examples.+build.Given as goal
use Rattle.asl_numbered.specs.Names.{Name}

abbrev pub decreases-build : goal.decreases-build
decreases-build l = 3 * l.number + 2

abbrev pub decreases-build_kinds : goal.decreases-build_kinds
decreases-build_kinds l = 3 * l.number + 1

abbrev pub decreases-push_examples : goal.decreases-push_examples
decreases-push_examples l = 3 * l.bound

abbrev pub decreases-build_needed : goal.decreases-build_needed
decreases-build_needed l = 3 * l.bound

abbrev pub invariant-push_examples-loop-number : goal.invariant-push_examples-loop-number
invariant-push_examples-loop-number l =
    (map view l.trees.items ≡ map view l.initial.trees.items ++ examples_at l.table (take l.number-index l.numbers))
    × AreBelow l.bound (drop l.number-index l.numbers)

abbrev pub invariant-build_needed-loop-name : goal.invariant-build_needed-loop-name
invariant-build_needed-loop-name l =
    (done : List (Name × NodeField)) × (l.fields.entries ≡ done ++ l.name-iterator)
    × (entries_view l.built.entries ≡ without (option_map (λ name. name.now) l.omitted) (needed_examples (fields_at l.table done)))
    × AreBelow l.bound (numbers_in l.name-iterator)
