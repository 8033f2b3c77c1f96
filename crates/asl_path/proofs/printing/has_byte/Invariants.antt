use Rattle.std.proofs.Common.{◌≡◌, drop}
use Rattle.asl_model.specs.PathSpelling.{has_byte}
use Rattle.asl_path.proofs.printing.has_byte.Given as goal

abbrev pub invariant-loop-each : goal.invariant-loop-each
invariant-loop-each l = has_byte l.byte l.text ≡ has_byte l.byte (drop l.each-index l.text)
