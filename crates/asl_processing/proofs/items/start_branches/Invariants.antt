use Rattle.std.proofs.Common.{take}
use Rattle.asl_processing.specs.Data.{datum_view}
use Rattle.asl_processing.proofs.Children.{BeginAt}
use Rattle.asl_processing.proofs.items.start_branches.Given as goal

abbrev pub invariant-loop-start : goal.invariant-loop-start
invariant-loop-start l = BeginAt (datum_view l.input) (take l.start-index l.branches) l.children.items
