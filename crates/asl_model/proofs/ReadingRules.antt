-- A tree spells at most one template and one rule, and spells one or has a fault.
use Rattle.std.proofs.Common.{◌≡◌, ◌⊎◌, ◌↔◌, inl, inr, List, [], ◌∷◌, Bool, Some, None, Contains, if◌then◌else◌, refl, ap, sym, ◌∙◌}
use Rattle.std.proofs.lemmas.Option.{none-some, same_Some}
use Rattle.asl_model.specs.Tree.{Tree}
use Rattle.asl_model.specs.Template.{Template}
use Rattle.asl_model.specs.Test.{Rule}
use Rattle.asl_model.specs.TemplateSpelling.{TemplateFault, template_faults, part_of, template_of, SpellsTemplate, HasTemplateFault}
use Rattle.asl_model.specs.TemplateSpelling as template
use Rattle.asl_model.specs.RuleSpelling.{RuleFault, rule_faults, rule_from, rule_of, SpellsRule, HasRuleFault}
use Rattle.asl_model.specs.RuleSpelling as rule
use Rattle.asl_model.proofs.ReadingLaws.{none_listed, first_listed}

-- ---- templates

pub template_is_one : (item : Bool) (t : Tree) (p q : Template) → SpellsTemplate item t p → SpellsTemplate item t q → p ≡ q
template_is_one item t p q r s = sym r.same ∙ s.same

pub template_has_no_fault : (item : Bool) (t : Tree) (p : Template) (f : TemplateFault) → SpellsTemplate item t p → HasTemplateFault item t f → ⊥
template_has_no_fault item t p f r h = none_listed (template_faults item t) f r.none_wrong h.listed

pub template_or_fault : (item : Bool) (t : Tree) → ((p : Template) × SpellsTemplate item t p) ⊎ ((f : TemplateFault) × HasTemplateFault item t f)
template_or_fault item t = by (first_listed (template_faults item t))
  where
    by : (template_faults item t ≡ []) ⊎ ((f : TemplateFault) × Contains (template_faults item t) f) → ((p : Template) × SpellsTemplate item t p) ⊎ ((f : TemplateFault) × HasTemplateFault item t f)
    by (inl e) = inl (part_of item t, record { none_wrong = e; same = refl })
    by (inr c) = inr (c.0, record { listed = c.1 })

template_taken : (faults : List TemplateFault) (p q : Template) → (if template.none_among faults then Some p else None) ≡ Some q → (faults ≡ []) × (p ≡ q)
template_taken [] p q e = (refl, same_Some p q e)
template_taken (f ∷ further) p q e = absurd (none-some q e)

pub template_of-SpellsTemplate : (item : Bool) (t : Tree) (p : Template) → (template_of item t ≡ Some p) ↔ SpellsTemplate item t p
template_of-SpellsTemplate item t p = (λ e. let r = template_taken (template_faults item t) (part_of item t) p e in record { none_wrong = r.0; same = r.1 }, λ s. ap (λ faults. if template.none_among faults then Some (part_of item t) else None) s.none_wrong ∙ ap Some s.same)

-- ---- rules

pub rule_is_one : (t : Tree) (a b : Rule) → SpellsRule t a → SpellsRule t b → a ≡ b
rule_is_one t a b r s = sym r.same ∙ s.same

pub rule_has_no_fault : (t : Tree) (a : Rule) (f : RuleFault) → SpellsRule t a → HasRuleFault t f → ⊥
rule_has_no_fault t a f r h = none_listed (rule_faults t) f r.none_wrong h.listed

pub rule_or_fault : (t : Tree) → ((a : Rule) × SpellsRule t a) ⊎ ((f : RuleFault) × HasRuleFault t f)
rule_or_fault t = by (first_listed (rule_faults t))
  where
    by : (rule_faults t ≡ []) ⊎ ((f : RuleFault) × Contains (rule_faults t) f) → ((a : Rule) × SpellsRule t a) ⊎ ((f : RuleFault) × HasRuleFault t f)
    by (inl e) = inl (rule_from t, record { none_wrong = e; same = refl })
    by (inr c) = inr (c.0, record { listed = c.1 })

rule_taken : (faults : List RuleFault) (a b : Rule) → (if rule.none_among faults then Some a else None) ≡ Some b → (faults ≡ []) × (a ≡ b)
rule_taken [] a b e = (refl, same_Some a b e)
rule_taken (f ∷ further) a b e = absurd (none-some b e)

pub rule_of-SpellsRule : (t : Tree) (a : Rule) → (rule_of t ≡ Some a) ↔ SpellsRule t a
rule_of-SpellsRule t a = (λ e. let r = rule_taken (rule_faults t) (rule_from t) a e in record { none_wrong = r.0; same = r.1 }, λ s. ap (λ faults. if rule.none_among faults then Some (rule_from t) else None) s.none_wrong ∙ ap Some s.same)
