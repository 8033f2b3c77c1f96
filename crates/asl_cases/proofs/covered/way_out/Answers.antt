use Rattle.std.proofs.Common.{◌≡◌, ◌≤◌, sym, ap, ◌∙◌, subst, arith, true, suc, ◌+◌, ℕ, List, Some, length, map, take}
use Rattle.std.proofs.lemmas.Bool.{and_right}
use Rattle.std.proofs.lemmas.List.{length-map, take_all}
use Rattle.asl_model.specs.Tree.{Tree}
use Rattle.asl_states.specs.Machine.{choice_rule_view}
use Rattle.asl_states.specs.declared.states.ChoiceRule.{ChoiceRule}
use Rattle.asl_tree.specs.View.{view}
use Rattle.asl_cases.specs.Coverage.{are_false}
use Rattle.asl_cases.proofs.WaysOut.{false_rule, first_is, none_is, none_of_false, not_all_false, one_more_false, open_rule, true_rule}
use Rattle.asl_cases.proofs.Numbered.{seen_at}
use Rattle.asl_cases.proofs.covered.way_out.Goals as goal

pub returns-in-Ok-true-clause-rule : goal.returns-in-Ok-true-clause-rule
returns-in-Ok-true-clause-rule c = λ i.
    first_is (view c.args.input.now) (map choice_rule_view c.args.rules.now) c.loop-number.number i (choice_rule_view c.index-rules-number.result) c.loop-number.invariant (seen_at choice_rule_view c.args.rules.now c.loop-number.number c.index-rules-number.result c.loop-number-test.true c.index-rules-number.is)
    (c.in-Ok-true.ensures.decided ∙ ap (λ b. Some b) c.in-Ok-true.field-0-test)

pub returns-in-Ok-true-clause-default : goal.returns-in-Ok-true-clause-default
returns-in-Ok-true-clause-default c =
    let rule = choice_rule_view c.index-rules-number.result in
    and_right c.args.has_default (are_false (map choice_rule_view c.args.rules.now) (view c.args.input.now))
    (not_all_false (view c.args.input.now) (map choice_rule_view c.args.rules.now) c.loop-number.number rule (seen_at choice_rule_view c.args.rules.now c.loop-number.number c.index-rules-number.result c.loop-number-test.true c.index-rules-number.is)
    (true_rule (view c.args.input.now) rule (c.in-Ok-true.ensures.decided ∙ ap (λ b. Some b) c.in-Ok-true.field-0-test)).1)

pub returns-in-Err-clause-rule : goal.returns-in-Err-clause-rule
returns-in-Err-clause-rule c = λ i.
    none_is (view c.args.input.now) (map choice_rule_view c.args.rules.now) c.loop-number.number i (choice_rule_view c.index-rules-number.result) c.loop-number.invariant (seen_at choice_rule_view c.args.rules.now c.loop-number.number c.index-rules-number.result c.loop-number-test.true c.index-rules-number.is)
    c.in-Err.ensures.names_nothing

pub returns-in-Err-clause-default : goal.returns-in-Err-clause-default
returns-in-Err-clause-default c =
    let rule = choice_rule_view c.index-rules-number.result in
    and_right c.args.has_default (are_false (map choice_rule_view c.args.rules.now) (view c.args.input.now))
    (not_all_false (view c.args.input.now) (map choice_rule_view c.args.rules.now) c.loop-number.number rule (seen_at choice_rule_view c.args.rules.now c.loop-number.number c.index-rules-number.result c.loop-number-test.true c.index-rules-number.is)
    (open_rule (view c.args.input.now) rule c.in-Err.ensures.names_nothing).1)

pub loop-number-preserved : goal.loop-number-preserved
loop-number-preserved c =
    let input = view c.args.input.now in
    let rules = map choice_rule_view c.args.rules.now in
    let n = c.loop-number.number in
    let rule = choice_rule_view c.index-rules-number.result in
    let next : suc n ≡ n + 1 = omega arith in
    subst (λ m. are_false (take m rules) input ≡ true) next
    (one_more_false input rules n rule c.loop-number.invariant (seen_at choice_rule_view c.args.rules.now n c.index-rules-number.result c.loop-number-test.true c.index-rules-number.is)
    (false_rule input rule (c.in-Ok-false.ensures.decided ∙ ap (λ b. Some b) c.in-Ok-false.field-0-test)).1)

-- all rules are false
all_of_them : (input : Tree) (rules : List ChoiceRule) (n : ℕ) → length rules ≤ n → are_false (take n (map choice_rule_view rules)) input ≡ true → are_false (map choice_rule_view rules) input ≡ true
all_of_them input rules n over h =
    sym (ap (λ rs. are_false rs input) (take_all n (map choice_rule_view rules) (omega (arith, length-map rules choice_rule_view)))) ∙ h

pub returns-then-has_default-clause-rule : goal.returns-then-has_default-clause-rule
returns-then-has_default-clause-rule c = λ i.
    let input = view c.args.input.now in
    none_of_false input (map choice_rule_view c.args.rules.now) i (all_of_them input c.args.rules.now c.loop-number.number c.loop-number-test.false c.loop-number.invariant)

pub returns-else-has_default-clause-rule : goal.returns-else-has_default-clause-rule
returns-else-has_default-clause-rule c = λ i.
    let input = view c.args.input.now in
    none_of_false input (map choice_rule_view c.args.rules.now) i (all_of_them input c.args.rules.now c.loop-number.number c.loop-number-test.false c.loop-number.invariant)
