use Rattle.std.proofs.Common.{◌≡◌, drop, map}
use Rattle.asl_states.specs.Machine.{retrier_view}
use Rattle.asl_model.specs.Run as model
use Rattle.asl_processing.proofs.troubles.retrying.Given as goal

-- the retriers left decide
abbrev pub invariant-loop-number : goal.invariant-loop-number
invariant-loop-number l = model.retrying 0 (map retrier_view l.retriers) l.counts l.error ≡ model.retrying l.number (map retrier_view (drop l.number l.retriers)) l.counts l.error
