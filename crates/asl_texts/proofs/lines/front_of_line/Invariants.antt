use Rattle.std.proofs.Common.{◌≡◌, ◌+◌, length, drop}
use Rattle.asl_model.specs.Printed.{first_line}
use Rattle.asl_texts.proofs.lines.front_of_line.Given as goal

-- no line break so far
abbrev pub invariant-loop-i : goal.invariant-loop-i
invariant-loop-i l = length (first_line l.bytes) ≡ l.i + length (first_line (drop l.i l.bytes))
