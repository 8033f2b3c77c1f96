use Rattle.std.proofs.Common.{IsTrue, length}
use Rattle.asl_texts.proofs.WriteSteps.{LeavesRest}
use Rattle.asl_texts.proofs.sinks.write_all.Given as goal

abbrev pub invariant-writes : goal.invariant-writes
invariant-writes g l = record {
  gone : LeavesRest (g.W.Sink.contents l.fn.sink) (g.W.Sink.contents l.sink) l.bytes l.rest;
  lasting : IsTrue (g.W.Sink.failed l.fn.sink) → IsTrue (g.W.Sink.failed l.sink);
}

abbrev pub decreases-writes : goal.decreases-writes
decreases-writes g l = length l.rest
