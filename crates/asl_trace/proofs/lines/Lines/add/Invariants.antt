use Rattle.std.proofs.Common.{◌≡◌, ◌++◌}
use Rattle.asl_trace.proofs.Traces.{lines_of}
use Rattle.asl_trace.proofs.lines.Lines.add.Given as goal

-- the lines so far
abbrev pub invariant-loop-entry : goal.invariant-loop-entry
invariant-loop-entry l = l.self.bytes.items ≡ l.fn.self.bytes.items ++ lines_of l.entry-index l.entries
