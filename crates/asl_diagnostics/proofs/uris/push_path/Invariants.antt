use Rattle.std.proofs.Common.{◌≡◌, ◌++◌, drop, string_bytes}
use Rattle.std.specs.List.{flat_map}
use Rattle.asl_diagnostics.specs.Sarif.{uri_byte}
use Rattle.asl_diagnostics.proofs.uris.push_path.Given as goal

-- what is written, and then what is left, are the whole
abbrev pub invariant-loop-byte : goal.invariant-loop-byte
invariant-loop-byte l =
    string_bytes l.text ++ flat_map uri_byte (drop l.byte-index l.path)
    ≡ string_bytes l.fn.text ++ flat_map uri_byte l.path
