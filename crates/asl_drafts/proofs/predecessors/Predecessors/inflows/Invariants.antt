use Rattle.std.proofs.Common.{◌≡◌, ℕ, List, ◌++◌, map}
use Rattle.asl_drafts.proofs.Inflows.{inflow_of}
use Rattle.asl_drafts.specs.declared.predecessors.Origin.{Origin}
use Rattle.asl_drafts.proofs.predecessors.Predecessors.inflows.Given as goal

abbrev pub invariant-loop-origin : goal.invariant-loop-origin
invariant-loop-origin l = record {
  done : List (Origin × ℕ);
  whole : l.initial.origin-iterator ≡ done ++ l.origin-iterator;
  found : l.found.items ≡ map inflow_of done;
}
