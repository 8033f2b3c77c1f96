use Rattle.std.proofs.Common.{◌≡◌, ◌++◌}
use Rattle.asl_check.specs.Noting.{notes_view}
use Rattle.asl_check.specs.View.{findings_view}
use Rattle.asl_check.proofs.noting.told.Given as goal

-- what is told so far and what the notes left tell is what all notes tell
abbrev pub invariant-loop-state : goal.invariant-loop-state
invariant-loop-state l = notes_view l.fn.notes.entries ≡ findings_view l.findings.items ++ notes_view l.state-iterator
