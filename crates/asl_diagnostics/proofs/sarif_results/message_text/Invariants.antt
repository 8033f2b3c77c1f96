use Rattle.std.proofs.Common.{◌≡◌, string_bytes}
use Rattle.std.specs.List.{flat_map}
use Rattle.asl_diagnostics.specs.Sarif.{message_char}
use Rattle.asl_diagnostics.proofs.sarif_results.message_text.Given as goal

-- what is written is that of the characters so far
abbrev pub invariant-loop-c : goal.invariant-loop-c
invariant-loop-c l = string_bytes l.text ≡ flat_map message_char l.yielded
