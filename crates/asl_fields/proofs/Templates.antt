-- What a value is as a template.
use Rattle.std.proofs.Common.{◌≡◌, List, [], ◌∷◌, Bool, is_some, if◌then◌else◌, Some, None, option_and_then, refl, ap, ◌∙◌, arith}
use Rattle.std.specs.List.{Contains}
use Rattle.serde_json.specs.Data.{Data}
use Rattle.asl_model.specs.DefinitionTable as model
use Rattle.asl_model.specs.Json.{tree_of}
use Rattle.asl_model.specs.Template.{Template}
use Rattle.asl_model.specs.TemplateSpelling.{TemplateFault, template_of, template_faults, none_among, part_of}
use Rattle.asl_model.specs.Tree.{Tree}
use Rattle.asl_template.specs.Whole.{ValueSpells, ValueHasFault}

-- the template of a tree with these faults
with_faults : (item : Bool) (t : Tree) (faults : List TemplateFault) → template_faults item t ≡ faults → template_of item t ≡ (if none_among faults then Some (part_of item t) else None)
with_faults item t faults is = ap (λ fs. if none_among fs then Some (part_of item t) else None) is

none_with : (item : Bool) (t : Tree) (f : TemplateFault) (faults : List TemplateFault) → template_faults item t ≡ faults → Contains faults f → template_of item t ≡ None
none_with item t f [] is (i, within, at) = absurd (omega (arith, within))
none_with item t f (x ∷ xs) is h = with_faults item t (x ∷ xs) is

-- the template that it spells
pub template_spelled : {item : Bool} {v : Data} {p : Template} → ValueSpells item v p → option_and_then (template_of item) (tree_of v) ≡ Some p
template_spelled {item} h = ap (option_and_then (template_of item)) h.is ∙ (with_faults item h.tree [] h.holds.none_wrong ∙ ap Some h.holds.same)

-- nothing is wrong then
pub template_right : {item : Bool} {v : Data} {p : Template} → ValueSpells item v p → model.template_misfits item (tree_of v) ≡ []
template_right {item} h = ap (model.template_misfits item) h.is ∙ ap (λ o. model.unless (is_some o) model.BadTemplate) (with_faults item h.tree [] h.holds.none_wrong)

-- where it has a fault, that is what is told
pub template_wrong : {item : Bool} {v : Data} {f : TemplateFault} → ValueHasFault item v f → model.template_misfits item (tree_of v) ≡ model.BadTemplate ∷ []
template_wrong {item} {f = f} h = ap (model.template_misfits item) h.is ∙ ap (λ o. model.unless (is_some o) model.BadTemplate) (none_with item h.tree f (template_faults item h.tree) refl h.holds.listed)
