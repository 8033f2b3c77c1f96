use Rattle.std.proofs.Common.{◌≡◌, map, take, Some}
use Rattle.asl_ways.specs.Coming.{coming}
use Rattle.asl_ways.specs.Seeking.{Visits}
use Rattle.asl_ways.proofs.search.Search.visit_all.Given as goal

abbrev pub invariant-loop-arrival : goal.invariant-loop-arrival
invariant-loop-arrival l = record {
  unchanged : l.shapes ≡ l.initial.shapes;
  visits : Visits l.initial.shapes l.initial.self l.self (map (coming l.initial.shapes) (take l.arrival-index l.arrivals)) (Some l.before);
}
