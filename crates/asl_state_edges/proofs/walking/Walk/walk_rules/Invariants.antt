use Rattle.std.proofs.Common.{drop}
use Rattle.asl_state_edges.specs.Steps.{rules_steps}
use Rattle.asl_state_edges.proofs.Going.{GoesOn}
use Rattle.asl_state_edges.proofs.walking.Walk.walk_rules.Given as goal

-- the rules that are left
abbrev pub invariant-loop-rule : goal.invariant-loop-rule
invariant-loop-rule l =
    let old = l.initial.shapes in
    GoesOn old l.shapes l.initial.steps.items l.steps.items (rules_steps old l.self l.rules l.effective) (rules_steps old l.self (drop l.rule-index l.rules) l.effective)
