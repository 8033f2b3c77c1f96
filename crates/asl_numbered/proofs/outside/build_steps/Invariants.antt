use Rattle.std.proofs.Common.{◌≡◌, length}
use Rattle.asl_model.specs.Tree as json
use Rattle.asl_tree.specs.View.{view}
use Rattle.asl_numbered.specs.Outside.{steps_over, AreStepsWithin}
use Rattle.asl_numbered.proofs.outside.build_steps.Given as goal

abbrev pub invariant-loop-step : goal.invariant-loop-step
invariant-loop-step l =
    (steps_over l.table l.initial.steps.items json.Null ≡ steps_over l.table l.steps.items (view l.tree))
    × AreStepsWithin l.table l.steps.items

abbrev pub decreases-loop-step : goal.decreases-loop-step
decreases-loop-step l = length l.steps.items
