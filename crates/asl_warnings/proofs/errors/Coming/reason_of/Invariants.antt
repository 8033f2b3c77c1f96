use Rattle.std.proofs.Common.{map, take, string_bytes}
use Rattle.asl_warnings.specs.Coming.{NoneComes}
use Rattle.asl_warnings.proofs.errors.Coming.reason_of.Given as goal

abbrev pub invariant-loop-name : goal.invariant-loop-name
invariant-loop-name l = NoneComes l.self (map string_bytes (take l.name-index l.names))
