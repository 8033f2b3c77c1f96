use Rattle.std.proofs.Common.{◌≡◌, map, take, drop, option_and_then}
use Rattle.std.specs.List.{filter_map}
use Rattle.serde_json.specs.View.{view, items_view}
use Rattle.asl_model.specs.DefinitionTable as model
use Rattle.asl_model.specs.Json.{tree_of}
use Rattle.asl_model.specs.RuleSpelling.{rule_of}
use Rattle.asl_states.specs.Machine.{choice_rule_view}
use Rattle.asl_fields.proofs.choices.read_each.Given as goal

abbrev pub invariant-loop-element : goal.invariant-loop-element
invariant-loop-element l = record {
  rules : map choice_rule_view l.rules.items ≡ filter_map (λ v. option_and_then rule_of (tree_of (view v))) (take l.element-index l.elements);
  faults : model.wrong_with_each (λ r. model.rule_misfits (tree_of r)) (items_view l.elements) ≡ model.wrong_with_each (λ r. model.rule_misfits (tree_of r)) (items_view (drop l.element-index l.elements));
}
