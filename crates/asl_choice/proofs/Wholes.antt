-- What a reading tells of a value that is a tree.
use Rattle.std.proofs.Common.{◌≡◌, Some, ap, ◌∙◌, subst, is_some, true, Result, Ok, Err}
use Rattle.std.specs.Prelude.{IfOk, IfErr, IfSome}
use Rattle.std.specs.List.{Contains}
use Rattle.serde_json.specs.Data.{Data}
use Rattle.asl_model.specs.Json.{tree_of}
use Rattle.asl_model.specs.Tree.{Tree}
use Rattle.asl_model.specs.RuleSpelling.{RuleFault, SpellsRule, HasRuleFault, rule_faults}
use Rattle.asl_tree.proofs.Values.{holds_whole, answer_whole, holds_this, answer_this}
use Rattle.asl_tree.specs.Values.{whole}
use Rattle.asl_choice.specs.Refusal.{Tells, fault_named}
use Rattle.asl_choice.specs.View.{rule_view}
use Rattle.asl_choice.specs.Whole.{ValueSpells, ValueHasFault}
use Rattle.asl_choice.specs.declared.refusal.RuleRefusal.{RuleRefusal}
use Rattle.asl_choice.specs.declared.rule.Rule.{Rule}

-- what it reads
pub spelled_whole : {E : Type 0} (r : Result Rule E) (v : Data) → is_some (tree_of v) ≡ true → IfOk r (λ rule. SpellsRule (whole v) (rule_view rule)) → IfOk r (λ rule. ValueSpells v (rule_view rule))
spelled_whole r v h spells = answer_whole (λ rule t. SpellsRule t (rule_view rule)) r v h spells

-- what is wrong
pub told_whole : {A : Type 0} (r : Result A RuleRefusal) (v : Data) (e : RuleRefusal) (f : RuleFault) → is_some (tree_of v) ≡ true → IfErr r (λ e. Tells e (rule_faults (whole v)))
    → fault_named e ≡ Some f → r ≡ Err e → ValueHasFault v f
told_whole (Ok a) v e f h told named is = absurd (cc)
told_whole (Err x) v e f h told named is =
    let same : x ≡ e = cc in
    holds_whole (λ t. HasRuleFault t f) v h (record { listed = subst (λ o. IfSome o (Contains (rule_faults (whole v)))) (ap fault_named same ∙ named) told.listed })

-- so of the tree that it is
pub spelled_this : {E : Type 0} (r : Result Rule E) (v : Data) (t : Tree) → tree_of v ≡ Some t → IfOk r (λ rule. ValueSpells v (rule_view rule)) → IfOk r (λ rule. SpellsRule t (rule_view rule))
spelled_this r v t h o = answer_this (λ rule t. SpellsRule t (rule_view rule)) r v t h o

pub told_this : (v : Data) (f : RuleFault) (t : Tree) → tree_of v ≡ Some t → ValueHasFault v f → HasRuleFault t f
told_this v f t h o = holds_this (λ t. HasRuleFault t f) v t h o
