use Rattle.std.proofs.Common.{◌≡◌, ◌++◌, string_bytes}
use Rattle.std.specs.List.{flat_map}
use Rattle.asl_diagnostics.specs.Github.{escaped_char}
use Rattle.asl_diagnostics.proofs.github.push_escaped.Given as goal

-- what is written is that of the characters so far
abbrev pub invariant-loop-c : goal.invariant-loop-c
invariant-loop-c l = string_bytes l.text ≡ string_bytes l.fn.text ++ flat_map (escaped_char l.part) l.yielded
