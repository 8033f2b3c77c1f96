use Rattle.std.proofs.Common.{◌≡◌, drop, map, option_map}
use Rattle.asl_states.specs.Machine.{choice_rule_view, target_name}
use Rattle.asl_model.specs.Flow.{chosen}
use Rattle.asl_tree.specs.View.{view}
use Rattle.asl_processing.proofs.choosing.choose.Given as goal

abbrev pub invariant-loop-rule : goal.invariant-loop-rule
invariant-loop-rule l =
    chosen (map choice_rule_view l.rules) (option_map target_name l.default) (view l.input) ≡ chosen (map choice_rule_view (drop l.rule-index l.rules)) (option_map target_name l.default) (view l.input)
