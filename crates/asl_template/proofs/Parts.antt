-- Reading the elements of a list as templates, one after another.
use Rattle.std.proofs.Common.{◌≡◌, ℕ, ◌+◌, ◌<◌, ◌≤◌, List, [], ◌∷◌, length, get_or, drop, take, map, Bool, refl, sym, ap, ◌∙◌, drop-cons, add-one, rules}
use Rattle.std.proofs.lemmas.List.{take_all}
use Rattle.asl_model.specs.Template as template
use Rattle.asl_model.specs.TemplateSpelling.{part_of, parts_of, part_faults, parts_faults}
use Rattle.serde_json.specs.declared.value.Value.{Value}
use Rattle.asl_tree.specs.Values.{tree_in, elements_in}
use Rattle.asl_tree.specs.View as trees
use Rattle.asl_tree.specs.declared.Tree.{Tree}
use Rattle.asl_template.specs.Refusal.{Tells}
use Rattle.asl_template.specs.View.{view, templates_of, elements_view}
use Rattle.asl_template.specs.declared.refusal.SpellingRefusal.{SpellingRefusal}
use Rattle.asl_template.specs.declared.template.Template.{Template, the_lemmas}
use Rattle.asl_template.specs.declared.template.Template.TheVariants as template_of
use Rattle.asl_intrinsic.specs.View as calls
use Rattle.asl_intrinsic.specs.declared.call.Call.{Call}
use Rattle.asl_template.proofs.Telling.{told_left, told_same}

-- the templates that the elements spell, as elements
parts_shown : (item : Bool) (ts : List Value) → templates_of (map (λ t. part_of item (tree_in t)) ts) ≡ parts_of item (elements_in ts)
parts_shown item [] = refl
parts_shown item (t ∷ ts) = ap (template.AndTemplate (part_of item (tree_in t))) (parts_shown item ts)

-- the templates of the elements that are gone through, to the end
pub parts_read : (item : Bool) (parts : List Template) (ts : List Value) (i : ℕ) → length ts ≤ i → map view parts ≡ map (λ t. part_of item (tree_in t)) (take i ts) → elements_view parts ≡ parts_of item (elements_in ts)
parts_read item parts ts i end e = ap templates_of (e ∙ ap (map (λ t. part_of item (tree_in t))) (take_all i ts end)) ∙ parts_shown item ts

-- what is wrong with one element is wrong with the list
pub element_told : (item : Bool) (e : SpellingRefusal) (all : List Value) (i : ℕ) (t : Value) → i < length all → t ≡ get_or all i t → parts_faults item (elements_in all) ≡ parts_faults item (elements_in (drop i all)) → Tells e (part_faults item (tree_in t)) → Tells e (parts_faults item (elements_in all))
element_told item e all i t within is so_far told =
    let split : drop i all ≡ t ∷ drop (i + 1) all = drop-cons all i t within ∙ rw (← is, add-one) refl in
    told_same e _ _ (told_left e (part_faults item (tree_in t)) (parts_faults item (elements_in (drop (i + 1) all))) told) (sym (so_far ∙ ap (λ ts. parts_faults item (elements_in ts)) split))

-- what a value stands for that stands for itself
pub view_Literal : (t : Tree) → view (template_of.Literal t) ≡ template.Literal (trees.view t)
view_Literal t = search (rules, the_lemmas)

-- what a call stands for
pub view_Call : (c : Call) → view (template_of.Call c) ≡ template.FromCall (calls.view c)
view_Call c = search (rules, the_lemmas)
