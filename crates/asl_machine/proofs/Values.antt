-- What is told of values one after another.
use Rattle.std.proofs.Common.{◌≡◌, ℕ, ◌+◌, ◌<◌, List, length, drop, drop-cons, get_or, add-one, map, ◌++◌, codes, Some, refl, sym, ap, ◌∙◌}
use Rattle.asl_model.specs.StandsFor.{Complaint, Place, target_complaints, rules_complaints}
use Rattle.asl_states.specs.Machine.{choice_rule_view, target_name}
use Rattle.asl_states.specs.declared.states.ChoiceRule.{ChoiceRule}
pub use Rattle.asl_fields.proofs.Values.{items_parts}

-- what is left of the rules of a Choice is the first and those behind it
pub rules_parts : (place : Place) (names : List (List ℕ)) (wrong : List Complaint) (rules : List ChoiceRule) (i : ℕ) (x : ChoiceRule) → i < length rules → x ≡ get_or rules i x → wrong ≡ rules_complaints place names (map choice_rule_view (drop i rules))
    → wrong ≡ target_complaints place names (codes "Choices") (Some (target_name x.next)) ++ rules_complaints place names (map choice_rule_view (drop (i + 1) rules))
rules_parts place names wrong rules i x h e all = all ∙ ap (λ left. rules_complaints place names (map choice_rule_view left)) (drop-cons rules i x h) ∙ (rw (add-one, sym e) refl)
