-- What the lines of a trace show.
use Rattle.std.specs.Prelude.{ℕ, List}
use Rattle.asl_trace.specs.declared.lines.Lines.{Lines}

-- the text of the lines so far
abbrev pub lines_text : Lines → List ℕ
lines_text lines = lines.bytes.items
