use Rattle.std.proofs.Common.{rules, ◌≡◌, [], ◌∷◌, ◌++◌, string_bytes, string_cmp, sym, ap, ◌∙◌, subst, append_assoc, arith}
use Rattle.std.proofs.lemmas.Grind.{common_steps}
use Rattle.std.proofs.lemmas.Result.{err_from_is_err_and}
use Rattle.std.specs.List.Sorted.{IsStrictlySortedBy}
use Rattle.std.specs.Map.{keys_of}
use Rattle.asl_intrinsic.specs.View as calls
use Rattle.asl_intrinsic.specs.View.{at_hand}
use Rattle.asl_model.specs.Intrinsic.{ItemIndex, InInput, InItem}
use Rattle.asl_template.proofs.Firsts.{path_fails, path_answers, call_fails, ElementsPassed, element_passed, elements_pass, element_fails, FieldsPassed, field_passed, field_fails}
use Rattle.asl_template.proofs.Values.{Entry, next_element, no_element_left, values_gone_through, before_later, value_last}
use Rattle.asl_tree.proofs.Views.{entries_view-insert_entry}
use Rattle.asl_template.specs.View.{view, elements_view, entries_view}
use Rattle.asl_template.specs.declared.template.Template.{the_lemmas}
use Rattle.asl_tree.specs.View as trees
use Rattle.asl_template.proofs.evaluating.+eval.Goals as goal

pub value_of-returns-in-None-clause-first : goal.value_of-returns-in-None-clause-first
value_of-returns-in-None-clause-first t c =
    path_fails (trees.view c.args.input.now) (at_hand c.args.item) (view c.args.template.now) ItemIndex (search (rules, the_lemmas)) (search rules)

pub value_of-returns-in-None-item-clause-first : goal.value_of-returns-in-None-item-clause-first
value_of-returns-in-None-item-clause-first t c =
    path_fails (trees.view c.args.input.now) (at_hand c.args.item) (view c.args.template.now) (InItem c.in-ItemValue.path) (search (rules, the_lemmas)) (search rules)

pub value_of-returns-in-Path-clause-first : goal.value_of-returns-in-Path-clause-first
value_of-returns-in-Path-clause-first t c =
    path_answers (trees.view c.args.input.now) (at_hand c.args.item) c.value_at.result (view c.args.template.now) (InInput c.in-Path.path) (search (rules, the_lemmas)) c.value_at.ensures.value c.value_at.ensures.nothing_named c.value_at.ensures.of_path

pub value_of-returns-in-Some-item-clause-first : goal.value_of-returns-in-Some-item-clause-first
value_of-returns-in-Some-item-clause-first t c =
    path_answers (trees.view c.args.input.now) (at_hand c.args.item) c.value_at-in-Some-item.result (view c.args.template.now) (InItem c.in-ItemValue.path) (search (rules, the_lemmas)) (search rules) (search rules) c.value_at-in-Some-item.ensures.of_path

pub value_of-returns-in-Err-IntrinsicFailure-clause-first :
    goal.value_of-returns-in-Err-IntrinsicFailure-clause-first
value_of-returns-in-Err-IntrinsicFailure-clause-first t c =
    call_fails (trees.view c.args.input.now) (at_hand c.args.item) (view c.args.template.now) (calls.view c.in-Call.call) (search (rules, the_lemmas)) (search rules)

pub element_values-loop-element-preserved : goal.element_values-loop-element-preserved
element_values-loop-element-preserved t c =
    let l = c.loop-element in
    let ts = c.args.elements.now in
    let x = c.element-item.result in
    let next = next_element ts l.element-index x (omega arith) c.element-item.is in
    record {
      values = grind (arith, common_steps);
      passed = element_passed (trees.view c.args.input.now) (at_hand c.args.item) c.in_ok-value_of.field-0 (elements_view ts) l.element-index (view x) _ (subst (ElementsPassed (trees.view c.args.input.now) (at_hand c.args.item) (elements_view ts) l.element-index) next l.invariant.passed) c.in_ok-value_of.ensures.first;
    }

pub element_values-returns-in_err-value_of-clause-first :
    goal.element_values-returns-in_err-value_of-clause-first
element_values-returns-in_err-value_of-clause-first t c =
    let l = c.loop-element in
    let ts = c.args.elements.now in
    let x = c.element-item.result in
    let p = err_from_is_err_and c.from_residual-in_err-value_of.result c.from_residual-in_err-value_of.ensures.1 in
    let next = next_element ts l.element-index x (omega arith) c.element-item.is in
    rw (p.1, p.2) (element_fails (trees.view c.args.input.now) (at_hand c.args.item) _ (elements_view ts) l.element-index (view x) _ (subst (ElementsPassed (trees.view c.args.input.now) (at_hand c.args.item) (elements_view ts) l.element-index) next l.invariant.passed) c.in_err-value_of.ensures.first)

pub element_values-returns-clause-values : goal.element_values-returns-clause-values
element_values-returns-clause-values t c =
    values_gone_through (trees.view c.args.input.now) (at_hand c.args.item) c.args.elements.now c.loop-element.element-index c.loop-element.values.items (omega arith) c.loop-element.invariant.values

pub element_values-returns-clause-first : goal.element_values-returns-clause-first
element_values-returns-clause-first t c =
    let l = c.loop-element in
    elements_pass (trees.view c.args.input.now) (at_hand c.args.item) l.values (elements_view c.args.elements.now) l.element-index
    (subst (ElementsPassed (trees.view c.args.input.now) (at_hand c.args.item) (elements_view c.args.elements.now) l.element-index) (no_element_left c.args.elements.now l.element-index (omega arith)) l.invariant.passed)

pub field_values-loop-name-preserved : goal.field_values-loop-name-preserved
field_values-loop-name-preserved t c =
    let l = c.loop-name in
    let input = trees.view c.args.input.now in
    let item = at_hand c.args.item in
    let whole = entries_view c.args.fields.now.entries in
    let done = l.invariant.done in
    let e : Entry = (c.in-Some.name.now, c.in-Some.field.now) in
    let left = c.next.new.self in
    let all : c.args.fields.now.entries ≡ done ++ e ∷ left = l.invariant.whole ∙ ap (λ es. done ++ es) c.in-Some.ensures.steps in
    let sorted = subst (λ es. IsStrictlySortedBy string_cmp (keys_of es)) all c.iter-name-items.ensures.ordered in
    let named : string_bytes c.in_ok-key.key ≡ string_bytes e.0 = c.in_ok-key.ensures.cases in
    let inserted = ap trees.entries_view c.in_ok-insert.ensures.entries ∙ entries_view-insert_entry l.values.entries c.in_ok-key.key c.in_ok-value_of.field-0 in
    record {
      done = done ++ e ∷ [];
      whole = all ∙ sym (append_assoc done (e ∷ []) left);
      values = inserted ∙ rw (named, c.in_ok-value_of.ensures.value, l.invariant.values) (value_last input item done e left sorted);
      passed = field_passed input item c.in_ok-value_of.field-0 whole (string_bytes e.0) (view e.1) (entries_view left) (subst (λ es. FieldsPassed input item whole (entries_view es)) c.in-Some.ensures.steps l.invariant.passed) (before_later done e left sorted) c.in_ok-value_of.ensures.first;
    }

pub field_values-returns-in_err-value_of-clause-first :
    goal.field_values-returns-in_err-value_of-clause-first
field_values-returns-in_err-value_of-clause-first t c =
    let l = c.loop-name in
    let input = trees.view c.args.input.now in
    let item = at_hand c.args.item in
    let whole = entries_view c.args.fields.now.entries in
    let done = l.invariant.done in
    let e : Entry = (c.in-Some.name.now, c.in-Some.field.now) in
    let left = c.next.new.self in
    let all : c.args.fields.now.entries ≡ done ++ e ∷ left = l.invariant.whole ∙ ap (λ es. done ++ es) c.in-Some.ensures.steps in
    let sorted = subst (λ es. IsStrictlySortedBy string_cmp (keys_of es)) all c.iter-name-items.ensures.ordered in
    let p = err_from_is_err_and c.from_residual-in_err-value_of.result c.from_residual-in_err-value_of.ensures.1 in
    rw (p.1, p.2) (field_fails input item _ whole (string_bytes e.0) (view e.1) (entries_view left) (subst (λ es. FieldsPassed input item whole (entries_view es)) c.in-Some.ensures.steps l.invariant.passed) (before_later done e left sorted) c.in_err-value_of.ensures.first)
