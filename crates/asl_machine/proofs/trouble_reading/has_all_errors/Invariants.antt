use Rattle.std.proofs.Common.{◌≡◌, codes, map, drop, string_bytes}
use Rattle.asl_model.specs.ShapeSpelling.{is_among}
use Rattle.asl_machine.proofs.trouble_reading.has_all_errors.Given as goal

abbrev pub invariant-loop-name : goal.invariant-loop-name
invariant-loop-name l =
    is_among (codes "States.ALL") (map string_bytes l.names) ≡ is_among (codes "States.ALL") (map string_bytes (drop l.name-index l.names))
