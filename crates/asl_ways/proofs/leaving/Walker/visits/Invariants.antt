use Rattle.std.proofs.Common.{◌≡◌}
use Rattle.asl_numbered.specs.Expansion.{Keeps}
use Rattle.asl_ways.specs.Given.{given_in}
use Rattle.asl_ways.proofs.Sought.{AreSought}
use Rattle.asl_ways.proofs.leaving.Walker.visits.Given as goal

abbrev pub invariant-loop-place : goal.invariant-loop-place
invariant-loop-place l = record {
  most : l.search.most ≡ l.most;
  keeps : Keeps l.fn.shapes l.shapes;
  sought : AreSought l.shapes (given_in l.fn.shapes l.self) l.search.visits.items l.search.most l.place;
}
