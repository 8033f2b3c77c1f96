-- What a JSON value is as a rule, by the tree that it is.
use Rattle.serde_json.specs.Data.{Data}
use Rattle.asl_model.specs.RuleSpelling.{RuleFault, SpellsRule, HasRuleFault}
use Rattle.asl_model.specs.Test.{Rule}
use Rattle.asl_tree.specs.Values.{IsTreeWith}

-- the value is a tree that spells the rule
abbrev pub ValueSpells : Data → Rule → Type 0
ValueSpells v rule = IsTreeWith (λ t. SpellsRule t rule) v

-- the value is a tree with that fault as a rule
abbrev pub ValueHasFault : Data → RuleFault → Type 0
ValueHasFault v f = IsTreeWith (λ t. HasRuleFault t f) v
