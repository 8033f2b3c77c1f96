-- What a value is as a rule.
use Rattle.std.proofs.Common.{◌≡◌, [], ◌∷◌, is_some, Option, Some, None, option_and_then, refl, ap, ◌∙◌}
use Rattle.serde_json.specs.Data.{Data}
use Rattle.asl_model.specs.DefinitionTable as model
use Rattle.asl_model.specs.Json.{tree_of}
use Rattle.asl_model.specs.RuleSpelling.{RuleFault, HasRuleFault, rule_of}
use Rattle.asl_model.specs.Test.{Rule}
use Rattle.asl_model.specs.Tree.{Tree}
use Rattle.asl_model.proofs.ReadingRules.{rule_has_no_fault, rule_of-SpellsRule}
use Rattle.asl_choice.specs.Whole.{ValueSpells, ValueHasFault}

-- a tree with a fault spells none
no_rule : (t : Tree) (f : RuleFault) → HasRuleFault t f → rule_of t ≡ None
no_rule t f wrong = by (rule_of t) refl
  where
    by : (o : Option Rule) → rule_of t ≡ o → o ≡ None
    by None is = refl
    by (Some rule) is = absurd (rule_has_no_fault t rule f ((rule_of-SpellsRule t rule).0 is) wrong)

-- the rule that it spells
pub rule_spelled : {v : Data} {rule : Rule} → ValueSpells v rule → option_and_then rule_of (tree_of v) ≡ Some rule
rule_spelled {rule = rule} h = ap (option_and_then rule_of) h.is ∙ (rule_of-SpellsRule h.tree rule).1 h.holds

-- nothing is wrong then
pub rule_right : {v : Data} {rule : Rule} → ValueSpells v rule → model.rule_misfits (tree_of v) ≡ []
rule_right {rule = rule} h = ap model.rule_misfits h.is ∙ ap (λ o. model.unless (is_some o) model.BadRule) ((rule_of-SpellsRule h.tree rule).1 h.holds)

-- where it has a fault, that is what is told
pub rule_wrong : {v : Data} {f : RuleFault} → ValueHasFault v f → model.rule_misfits (tree_of v) ≡ model.BadRule ∷ []
rule_wrong {f = f} h = ap model.rule_misfits h.is ∙ ap (λ o. model.unless (is_some o) model.BadRule) (no_rule h.tree f h.holds)
