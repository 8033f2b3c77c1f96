use Rattle.std.proofs.Common.{◌≡◌, Err, refl, sym, ap, ◌∙◌, ◌+◌, ◌==◌, ℕ, List, [], ◌∷◌, String, string_bytes, nat_cmp, length, drop, map, subst, false, Some, option_map, codes, arith}
use Rattle.std.proofs.lemmas.Grind.{common_steps}
use Rattle.std.proofs.lemmas.List.{take_all}
use Rattle.std.proofs.lemmas.Result.{err_from_is_err_and}
use Rattle.std.specs.Prelude.{IfOk}
use Rattle.std.specs.declared.alloc.Global.{Global}
use Rattle.std.specs.BTreeMap.{is_at}
use Rattle.std.specs.Cmp.Lexicographic.{slice_cmp}
use Rattle.std.specs.Map.{lookup}
use Rattle.asl_model.specs.Tree as json
use Rattle.asl_model.specs.Tree.{field_named}
use Rattle.asl_model.specs.RuleSpelling as model
use Rattle.serde_json.specs.declared.value.Value.{Value}
use Rattle.asl_tree.proofs.Texts.{elements_none}
use Rattle.asl_tree.proofs.Values.{field_named_lookup}
use Rattle.asl_tree.specs.Values.{tree_in, fields_in}
use Rattle.asl_choice.specs.View.{view}
use Rattle.asl_choice.proofs.Fields.{smaller, member_lost, variable_faults_one, variable_test_one}
use Rattle.asl_choice.proofs.Lists.{tests_read, element_told, list_right, no_one_field, right_same, told_all}
use Rattle.asl_choice.proofs.reading.+read.Goals as goal

pub read_test-read_joined-requires : goal.read_test-read_joined-requires
read_test-read_joined-requires t c =
    let among = c.in-Some.ensures.among in
    let below = smaller c.args.members.now.entries among.0 (c.in-Some.name.now, c.in-Some.value.now) among.1 among.2 in (omega arith, tt)

pub read_elements-returns-in_err-read_nested-clause-refused : goal.read_elements-returns-in_err-read_nested-clause-refused
read_elements-returns-in_err-read_nested-clause-refused t c =
    let i = c.loop-element.element-index in
    let elements = c.args.elements.now in
    let item = c.element-item.result in
    let split : drop i elements ≡ item ∷ drop (i + 1) elements = grind (arith, common_steps) in
    let p = err_from_is_err_and c.from_residual-in_err-read_nested.result c.from_residual-in_err-read_nested.ensures.1 in
    rw (p.1, p.2) (element_told c.in_err-read_nested.field-0.0 elements (drop i elements) (drop (i + 1) elements) item c.loop-element.invariant.0 split c.in_err-read_nested.ensures.refused)

pub read_elements-returns-in_err-read_nested-clause-not_whole : goal.read_elements-returns-in_err-read_nested-clause-not_whole
read_elements-returns-in_err-read_nested-clause-not_whole t c = λ h.
    let given = rw h at c.from_residual-in_err-read_nested.ensures.1 in
    let none = c.in_err-read_nested.ensures.not_whole (ap Err (sym given)) in
    elements_none c.args.elements.now c.args.elements.now c.loop-element.element-index c.element-item.result refl (omega arith) c.element-item.is none

pub read_elements-returns-clause-tests : goal.read_elements-returns-clause-tests
read_elements-returns-clause-tests t c =
    tests_read c.loop-element.tests.items c.args.elements.now (c.loop-element.invariant.1 ∙ ap (map (λ x. model.test_of (tree_in x))) (take_all c.loop-element.element-index c.args.elements.now c.loop-element-test.false))

pub read_list-returns-else-is_empty-clause-right : goal.read_list-returns-else-is_empty-clause-right
read_list-returns-else-is_empty-clause-right t c =
    let elements = c.in-Array.elements in
    let some : false ≡ (length c.deref.result.now == 0) = c.if-is_empty.ensures ∙ ap (λ n. n == 0) (sym c.deref.ensures.len) in
    list_right c.args.value.now elements c.deref.result.now c.read_elements.result c.in-Array.is c.deref.ensures.value some c.read_elements.ensures.right

pub read_test-returns-in_default-clause-refused : goal.read_test-returns-in_default-clause-refused
read_test-returns-in_default-clause-refused t c = no_one_field (fields_in c.args.members.now.entries) c.in_default.ensures.field

-- a value that is no tree, in the one main field
pub read_test-returns-in-Some-get-clause-not_whole : goal.read_test-returns-in-Some-get-clause-not_whole
read_test-returns-in-Some-get-clause-not_whole t c = λ h.
    member_lost c.args.members.now.entries (c.in-Some.name.now, c.in-Some.value.now) c.in-Some.ensures.among (c.read_variable_test.ensures.not_whole h)

pub read_test-returns-in-None-clause-not_whole : goal.read_test-returns-in-None-clause-not_whole
read_test-returns-in-None-clause-not_whole t c = λ h.
    member_lost c.args.members.now.entries (c.in-Some.name.now, c.in-Some.value.now) c.in-Some.ensures.among (c.read_joined.ensures.not_whole h)

-- the one main field, by the name that is passed on
one : (fs : json.Fields) (n m : List ℕ) (v : json.Tree) → model.main_fields fs ≡ (n, v) ∷ [] → m ≡ n → model.main_fields fs ≡ (m, v) ∷ []
one fs n m v is same = is ∙ ap (λ k. (k, v) ∷ []) (sym same)

found : (es : List (String Global × Value)) (v : Value) → Some v ≡ lookup (is_at (λ k. slice_cmp nat_cmp (codes "Variable") (string_bytes k))) es → field_named (codes "Variable") (fields_in es) ≡ Some (tree_in v)
found es v is = field_named_lookup (codes "Variable") es ∙ ap (option_map tree_in) (sym is)

pub read_test-returns-in-Some-get-clause-right : goal.read_test-returns-in-Some-get-clause-right
read_test-returns-in-Some-get-clause-right t c =
    let fs = fields_in c.args.members.now.entries in
    let v = tree_in c.in-Some-get.variable.now in
    let operand = tree_in c.in-Some.value.now in
    right_same _ _ c.read_variable_test.result (variable_faults_one fs v c.deref.result.now operand (found c.args.members.now.entries c.in-Some-get.variable.now c.in-Some-get.ensures.value) (one fs (string_bytes c.in-Some.name.now) c.deref.result.now operand c.in-Some.ensures.field c.deref.ensures)) c.read_variable_test.ensures.right

pub read_test-returns-in-Some-get-clause-test : goal.read_test-returns-in-Some-get-clause-test
read_test-returns-in-Some-get-clause-test t c =
    let fs = fields_in c.args.members.now.entries in
    let v = tree_in c.in-Some-get.variable.now in
    let operand = tree_in c.in-Some.value.now in
    let same = variable_test_one fs v c.deref.result.now operand (found c.args.members.now.entries c.in-Some-get.variable.now c.in-Some-get.ensures.value) (one fs (string_bytes c.in-Some.name.now) c.deref.result.now operand c.in-Some.ensures.field c.deref.ensures) in
    subst (λ wanted. IfOk c.read_variable_test.result (λ test. view test ≡ wanted)) (sym same) c.read_variable_test.ensures.test

pub read_test-returns-in-Some-get-clause-refused : goal.read_test-returns-in-Some-get-clause-refused
read_test-returns-in-Some-get-clause-refused t c =
    let fs = fields_in c.args.members.now.entries in
    let v = tree_in c.in-Some-get.variable.now in
    let operand = tree_in c.in-Some.value.now in
    told_all _ _ c.read_variable_test.result (variable_faults_one fs v c.deref.result.now operand (found c.args.members.now.entries c.in-Some-get.variable.now c.in-Some-get.ensures.value) (one fs (string_bytes c.in-Some.name.now) c.deref.result.now operand c.in-Some.ensures.field c.deref.ensures)) c.read_variable_test.ensures.refused
