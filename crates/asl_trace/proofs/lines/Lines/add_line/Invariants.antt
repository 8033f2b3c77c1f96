use Rattle.std.proofs.Common.{◌≡◌, ◌++◌, drop}
use Rattle.asl_trace.specs.Shown.{line_of}
use Rattle.asl_trace.proofs.lines.Lines.add_line.Given as goal

-- what is added and what is to come are the whole line
abbrev pub invariant-loop-field : goal.invariant-loop-field
invariant-loop-field l = l.self.bytes.items ++ line_of (drop l.field-index l.fields) ≡ l.fn.self.bytes.items ++ line_of l.fields
