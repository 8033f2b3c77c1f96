use Rattle.std.proofs.Common.{◌≡◌, drop, map, string_bytes}
use Rattle.asl_model.specs.Run as model
use Rattle.asl_processing.proofs.troubles.takes_error.Given as goal

-- the names left decide
abbrev pub invariant-loop-name : goal.invariant-loop-name
invariant-loop-name l = model.takes_error l.error (map string_bytes l.error_equals) ≡ model.takes_error l.error (map string_bytes (drop l.name-index l.error_equals))
