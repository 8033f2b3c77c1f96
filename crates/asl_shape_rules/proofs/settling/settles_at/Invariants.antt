use Rattle.std.proofs.Common.{take}
use Rattle.asl_numbered.specs.Expansion.{shape_at}
use Rattle.asl_shape_rules.proofs.Settlings.{AreKept, asked_by}
use Rattle.asl_shape_rules.proofs.settling.settles_at.Given as goal

-- the answers are those that the rules so far ask for
abbrev pub invariant-loop-choice : goal.invariant-loop-choice
invariant-loop-choice l =
    AreKept (asked_by (take l.choice-index l.choices) (shape_at l.shapes l.number)) l.answers.entries
