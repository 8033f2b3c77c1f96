use Rattle.std.proofs.Common.{◌≡◌, length, Some, IfSome, option_map}
use Rattle.asl_numbered.specs.Comparison.{AreRight}
use Rattle.asl_numbered.specs.Outside.{sought_tree, steps_over, steps_left, IsSought, AreStepsWithin}
use Rattle.asl_numbered.proofs.outside.find_steps.Given as goal

abbrev pub invariant-loop-left : goal.invariant-loop-left
invariant-loop-left l =
    (sought_tree l.table (Some l.fn.sought) ≡ option_map (steps_over l.table l.steps.items) (sought_tree l.table l.left))
    × AreStepsWithin l.table l.steps.items × IfSome l.left (IsSought l.table (length l.table)) × AreRight l.table l.compared.entries

abbrev pub decreases-loop-left : goal.decreases-loop-left
decreases-loop-left l = steps_left l.left
