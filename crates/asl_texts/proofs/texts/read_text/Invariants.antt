use Rattle.std.proofs.Common.{◌≤◌, ◌-◌, List, ℕ, IsTrue, vec_len}
use Rattle.std.specs.Io.KnownBytes.{Consumes}
use Rattle.asl_texts.specs.Fronts.{HasFront}
use Rattle.asl_texts.proofs.texts.read_text.Given as goal

-- what was read is the front of the source, within the limit
abbrev pub invariant-pieces : goal.invariant-pieces
invariant-pieces g l = record {
  within : vec_len l.text ≤ 16777216;
  read : Consumes (g.S.Source.remaining l.fn.source) (g.S.Source.remaining l.source) l.text.items;
  fronts : (front : List ℕ) → g.S.Source.begins l.fn.source front → HasFront (g.S.Source.begins l.source) l.text.items front;
  lasting : IsTrue (g.S.Source.failed l.fn.source) → IsTrue (g.S.Source.failed l.source);
}

-- a turn that goes on makes the text longer
abbrev pub decreases-pieces : goal.decreases-pieces
decreases-pieces g l = 16777217 - vec_len l.text
