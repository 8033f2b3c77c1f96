-- Reading the elements of a list as tests, one after another, and the fault of an object without its one field.
use Rattle.std.proofs.Common.{◌≡◌, ℕ, List, [], ◌∷◌, Option, Some, None, Result, Vec, false, ◌==◌, length, map, codes, refl, sym, ap, subst, ◌∙◌, rules}
use Rattle.std.specs.Prelude.{IfOk, IfErr}
use Rattle.std.specs.declared.alloc.Global.{Global}
use Rattle.asl_model.specs.Test as model
use Rattle.asl_model.specs.Test.{as_text}
use Rattle.asl_model.specs.Tree as json
use Rattle.asl_model.specs.Tree.{field_named}
use Rattle.asl_model.specs.RuleSpelling.{RuleFault, NotARule, test_of, each_test, each_faults, nested_faults, some_element, list_faults, main_fields, one_faults, joined_faults, test_faults, object_faults, variable_path_faults}
use Rattle.serde_json.proofs.Views.{view-Array}
use Rattle.serde_json.specs.declared.value.Value.{Value}
use Rattle.serde_json.specs.declared.value.Value as value
use Rattle.asl_tree.specs.Values.{whole, tree_in, elements_in}
use Rattle.asl_choice.specs.declared.refusal.RuleRefusal.{RuleRefusal}
use Rattle.asl_choice.specs.declared.refusal.RuleRefusal.TheVariants as refusal
use Rattle.asl_choice.specs.declared.rule.Test.{Test}
use Rattle.asl_choice.specs.Refusal.{Tells}
use Rattle.asl_choice.specs.View.{view, tests_of, tests_view}
use Rattle.asl_choice.proofs.Fields.{faults_by}
use Rattle.asl_choice.proofs.Telling.{told_same, told_left, told_right}

-- the tests that the elements spell, as parts
tests_shown : (ts : List Value) → tests_of (map (λ t. test_of (tree_in t)) ts) ≡ each_test (elements_in ts)
tests_shown [] = refl
tests_shown (t ∷ ts) = ap (model.AndTest (test_of (tree_in t))) (tests_shown ts)

-- tests that are read one by one are those of the list
pub tests_read : (tests : List Test) (ts : List Value) → map view tests ≡ map (λ t. test_of (tree_in t)) ts → tests_view tests ≡ each_test (elements_in ts)
tests_read tests ts e = ap tests_of e ∙ tests_shown ts

-- what is wrong with one element is wrong with the list
pub element_told : (e : RuleRefusal) (all left rest : List Value) (t : Value) → each_faults (elements_in all) ≡ each_faults (elements_in left) → left ≡ t ∷ rest → Tells e (nested_faults (tree_in t)) → Tells e (each_faults (elements_in all))
element_told e all left rest t so_far split told =
    told_same e _ _ (told_left e (nested_faults (tree_in t)) (each_faults (elements_in rest)) told) (sym (so_far ∙ ap (λ ts. each_faults (elements_in ts)) split))

-- what a list shows
view_list : (v : Vec Value Global) → tree_in (value.Array v) ≡ json.Array (elements_in v.items)
view_list v = ap whole (view-Array v)

-- a list that has an element isn't empty
some_there : (ts : List Value) → false ≡ (length ts == 0) → some_element (elements_in ts) ≡ []
some_there [] none = absurd (cc)
some_there (t ∷ ts) none = refl

-- a list that isn't empty, of elements with which nothing is wrong
pub list_right : (given : Value) (v : Vec Value Global) (items : List Value) (r : Result (Vec Test Global) RuleRefusal) → given ≡ value.Array v → items ≡ v.items → false ≡ (length items == 0) → IfOk r (λ _. each_faults (elements_in items) ≡ []) → IfOk r (λ _. list_faults (tree_in given) ≡ [])
list_right given v items r is same some right =
    rw (is, view_list v, ← same, some_there items some) right

-- ---- answers that are passed on, along an equation of the faults

pub right_same : (a b : List RuleFault) (r : Result Test RuleRefusal) → a ≡ b → IfOk r (λ _. b ≡ []) → IfOk r (λ _. a ≡ [])
right_same a b r same right = subst (λ faults. IfOk r (λ _. faults ≡ [])) (sym same) right

pub told_all : (a b : List RuleFault) (r : Result Test RuleRefusal) → a ≡ b → IfErr r (λ e. Tells e b) → IfErr r (λ e. Tells e a)
told_all a b r same told = subst (λ faults. IfErr r (λ e. Tells e faults)) (sym same) told

-- ---- an object without its one field

-- without `Variable`
joined_wrong : (fs : List (List ℕ × json.Tree)) (ands ors nots : List RuleFault) → one_faults fs ≡ NotARule ∷ [] → joined_faults fs ands ors nots ≡ NotARule ∷ []
joined_wrong [] ands ors nots wrong = refl
joined_wrong (f ∷ []) ands ors nots wrong = absurd (cc)
joined_wrong (f ∷ g ∷ fs) ands ors nots wrong = refl

told_here : Tells refusal.NotARule (NotARule ∷ [])
told_here = record { listed = search rules }

-- with `Variable` or without
by_variable : (v : Option json.Tree) (fs : json.Fields) (ands ors nots : List RuleFault) → one_faults (main_fields fs) ≡ NotARule ∷ [] → Tells refusal.NotARule (test_faults v fs ands ors nots)
by_variable None fs ands ors nots wrong = told_same refusal.NotARule _ _ told_here (sym (joined_wrong (main_fields fs) ands ors nots wrong))
by_variable (Some t) fs ands ors nots wrong =
    told_right refusal.NotARule (variable_path_faults (as_text t)) _ (told_left refusal.NotARule _ _ (told_same refusal.NotARule _ _ told_here (sym wrong)))

-- such an object is no rule
pub no_one_field : (fs : json.Fields) → one_faults (main_fields fs) ≡ NotARule ∷ [] → Tells refusal.NotARule (object_faults fs)
no_one_field fs wrong = told_same refusal.NotARule _ _ (by_variable (field_named (codes "Variable") fs) fs _ _ _ wrong) (sym (faults_by fs))
