use Rattle.std.proofs.Common.{◌≤◌, ◌-◌, ◌++◌, List, ℕ, IsTrue, vec_len}
use Rattle.std.specs.Io.KnownBytes.{prepend_known}
use Rattle.asl_texts.specs.Chunk.{pending}
use Rattle.asl_texts.specs.Fronts.{HasFront}
use Rattle.asl_texts.proofs.Fronts.{IsUnbroken}
use Rattle.asl_texts.proofs.LineSteps.{LeavesLine}
use Rattle.asl_texts.proofs.lines.next_line.Given as goal

-- what was taken is the beginning of the line, within the limit
abbrev pub invariant-pieces : goal.invariant-pieces
invariant-pieces g l = record {
  within : vec_len l.line ≤ 16777216;
  taken : LeavesLine (prepend_known (pending l.fn.chunk) (g.S.Source.remaining l.fn.source)) (prepend_known (pending l.chunk) (g.S.Source.remaining l.source)) l.line.items;
  unbroken : IsUnbroken l.line.items;
  fronts : (front : List ℕ) → HasFront (g.S.Source.begins l.fn.source) (pending l.fn.chunk) front → HasFront (g.S.Source.begins l.source) (l.line.items ++ pending l.chunk) front;
  lasting : IsTrue (g.S.Source.failed l.fn.source) → IsTrue (g.S.Source.failed l.source);
}

-- a turn that goes on makes the line longer
abbrev pub decreases-pieces : goal.decreases-pieces
decreases-pieces g l = 16777217 - vec_len l.line
