use Rattle.std.proofs.Common.{◌≡◌, map, string_bytes, ℕ, ◌<◌, slice_index_or}
use Rattle.asl_states.specs.Machine.{choice_rule_view}
use Rattle.asl_states.specs.Numbered.{IsNumbered}
use Rattle.asl_states.specs.declared.states.ChoiceRule.{ChoiceRule}
use Rattle.asl_states.proofs.finding.find_in_choices.Given as goal

abbrev pub invariant-loop-choice : goal.invariant-loop-choice
invariant-loop-choice l = record {
  same : map choice_rule_view l.choice-items ≡ map choice_rule_view l.fn.choices.items;
  numbered : (k : ℕ) (d : ChoiceRule) → k < l.choice-index → IsNumbered (map string_bytes l.names.keys) (slice_index_or l.choice-items k d).next;
}
