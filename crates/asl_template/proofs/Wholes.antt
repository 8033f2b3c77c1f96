-- What a reading tells of a value that is a tree.
use Rattle.std.proofs.Common.{◌≡◌, Some, ap, ◌∙◌, subst, is_some, true, Bool, Result, Ok, Err}
use Rattle.std.specs.Prelude.{IfOk, IfErr, IfSome}
use Rattle.std.specs.List.{Contains}
use Rattle.serde_json.specs.Data.{Data}
use Rattle.asl_model.specs.Json.{tree_of}
use Rattle.asl_model.specs.Tree.{Tree}
use Rattle.asl_model.specs.TemplateSpelling.{TemplateFault, SpellsTemplate, HasTemplateFault, template_faults}
use Rattle.asl_model.specs.TemplateGrammar.{StandsForTemplate}
use Rattle.asl_model.proofs.TemplateGrammar.{template_exactly}
use Rattle.asl_tree.proofs.Values.{holds_whole, answer_whole, holds_this, answer_this}
use Rattle.asl_tree.specs.Values.{whole}
use Rattle.asl_template.specs.Refusal.{Tells, fault_named}
use Rattle.asl_template.specs.View.{view}
use Rattle.asl_template.specs.Whole.{ValueSpells, ValueStandsFor, ValueHasFault}
use Rattle.asl_template.specs.declared.refusal.SpellingRefusal.{SpellingRefusal}
use Rattle.asl_template.specs.declared.template.Template.{Template}

-- ---- where the value is a tree

-- what it reads
pub spelled_whole : {E : Type 0} (item : Bool) (r : Result Template E) (v : Data) → is_some (tree_of v) ≡ true → IfOk r (λ p. SpellsTemplate item (whole v) (view p)) → IfOk r (λ p. ValueSpells item v (view p))
spelled_whole item r v h spells = answer_whole (λ p t. SpellsTemplate item t (view p)) r v h spells

-- it stands for that, too
pub stands_whole : {E : Type 0} (item : Bool) (r : Result Template E) (v : Data) → is_some (tree_of v) ≡ true → IfOk r (λ p. SpellsTemplate item (whole v) (view p)) → IfOk r (λ p. ValueStandsFor item v (view p))
stands_whole item (Ok p) v h spells = holds_whole (λ t. StandsForTemplate item t (view p)) v h ((template_exactly item (whole v) (view p)).0 spells)
stands_whole item (Err e) v h spells = tt

-- what is wrong
pub told_whole : {A : Type 0} (item : Bool) (r : Result A SpellingRefusal) (v : Data) (e : SpellingRefusal) (f : TemplateFault) → is_some (tree_of v) ≡ true → IfErr r (λ e. Tells e (template_faults item (whole v)))
    → fault_named e ≡ Some f → r ≡ Err e → ValueHasFault item v f
told_whole item (Ok a) v e f h told named is = absurd (cc)
told_whole item (Err x) v e f h told named is =
    let same : x ≡ e = cc in
    holds_whole (λ t. HasTemplateFault item t f) v h (record { listed = subst (λ o. IfSome o (Contains (template_faults item (whole v)))) (ap fault_named same ∙ named) told.listed })

-- ---- where it is that tree

pub spelled_this : {E : Type 0} (item : Bool) (r : Result Template E) (v : Data) (t : Tree) → tree_of v ≡ Some t → IfOk r (λ p. ValueSpells item v (view p)) → IfOk r (λ p. SpellsTemplate item t (view p))
spelled_this item r v t h o = answer_this (λ p t. SpellsTemplate item t (view p)) r v t h o

pub stands_this : {E : Type 0} (item : Bool) (r : Result Template E) (v : Data) (t : Tree) → tree_of v ≡ Some t → IfOk r (λ p. ValueStandsFor item v (view p)) → IfOk r (λ p. StandsForTemplate item t (view p))
stands_this item r v t h o = answer_this (λ p t. StandsForTemplate item t (view p)) r v t h o

pub told_this : (item : Bool) (v : Data) (f : TemplateFault) (t : Tree) → tree_of v ≡ Some t → ValueHasFault item v f → HasTemplateFault item t f
told_this item v f t h o = holds_this (λ t. HasTemplateFault item t f) v t h o
