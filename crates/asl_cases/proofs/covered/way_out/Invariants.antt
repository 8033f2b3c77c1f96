use Rattle.std.proofs.Common.{◌≡◌, map, take, true}
use Rattle.asl_states.specs.Machine.{choice_rule_view}
use Rattle.asl_tree.specs.View.{view}
use Rattle.asl_cases.specs.Coverage.{are_false}
use Rattle.asl_cases.proofs.covered.way_out.Given as goal

-- the rules so far are false
abbrev pub invariant-loop-number : goal.invariant-loop-number
invariant-loop-number l = are_false (take l.number (map choice_rule_view l.rules)) (view l.input) ≡ true
