use Rattle.std.proofs.Common.{◌≡◌, ◌<◌, drop, length}
use Rattle.asl_run.specs.Nodes.{number_from}
use Rattle.asl_run.proofs.nodes.Nodes.number_at.Given as goal

abbrev pub invariant-loop-number : goal.invariant-loop-number
invariant-loop-number l = record {
  path : number_from l.self 0 l.place ≡ number_from l.self l.here.0 (drop l.number-index l.place);
  within : l.here.0 < length l.self;
}
