use Rattle.std.proofs.Common.{map, take, string_bytes}
use Rattle.asl_warnings.specs.Coming.{TakesUp}
use Rattle.asl_warnings.proofs.errors.Coming.take.Given as goal

abbrev pub invariant-loop-name : goal.invariant-loop-name
invariant-loop-name l = TakesUp l.initial.self l.self (map string_bytes (take l.name-index l.names))
