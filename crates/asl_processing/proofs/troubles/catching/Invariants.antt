use Rattle.std.proofs.Common.{◌≡◌, drop, map}
use Rattle.asl_states.specs.Machine.{catcher_view}
use Rattle.asl_model.specs.Run as model
use Rattle.asl_processing.proofs.troubles.catching.Given as goal

-- the catchers left decide
abbrev pub invariant-loop-number : goal.invariant-loop-number
invariant-loop-number l = model.catching 0 (map catcher_view l.catchers) l.error ≡ model.catching l.number (map catcher_view (drop l.number l.catchers)) l.error
