use Rattle.asl_model.proofs.ReadingRules.{rule_is_one, rule_has_no_fault, rule_or_fault, rule_of-SpellsRule}
use Rattle.asl_model.proofs.reading_laws.trees_spell_one_rule.Goals as goal

pub returns : goal.returns
returns c = record { rule = rule_is_one; no_fault = rule_has_no_fault; either = rule_or_fault; read = rule_of-SpellsRule }
