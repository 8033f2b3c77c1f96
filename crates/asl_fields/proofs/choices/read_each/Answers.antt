use Rattle.std.proofs.Common.{[], ◌∷◌, map, ap, ◌∙◌, option_and_then, arith}
use Rattle.std.proofs.lemmas.List.{map-append}
use Rattle.asl_model.specs.DefinitionTable as model
use Rattle.asl_model.specs.Json.{tree_of}
use Rattle.asl_model.specs.RuleSpelling.{rule_of}
use Rattle.asl_states.specs.Machine.{choice_rule_view}
use Rattle.asl_fields.proofs.Checks.{handed_on, left_after}
use Rattle.asl_fields.proofs.Elements.{filtered_all, filtered_more}
use Rattle.asl_fields.proofs.Values.{each_told, items_parts}
use Rattle.asl_fields.proofs.choices.read_each.Goals as goal

pub loop-element-preserved : goal.loop-element-preserved
loop-element-preserved c =
    let l = c.loop-element in
    let done = map choice_rule_view l.rules.items in
    let parts = items_parts (model.wrong_with_each (λ r. model.rule_misfits (tree_of r))) _ c.args.elements.now l.element-index c.element-item.result c.loop-element-test.true c.element-item.is l.invariant.faults in
    record {
      rules = ap (map choice_rule_view) c.in_ok-push.ensures.items ∙ map-append choice_rule_view l.rules.items (c.in_ok-read_rule.field-0 ∷ [])
          ∙ filtered_more (λ v. option_and_then rule_of (tree_of v)) done c.args.elements.now l.element-index c.element-item.result (choice_rule_view c.in_ok-read_rule.field-0) (omega arith) c.element-item.is c.in_ok-read_rule.ensures.rule l.invariant.rules;
      faults = left_after _ _ _ parts c.in_ok-read_rule.ensures.faults;
    }

pub returns-in_err-read_rule-clause-faults : goal.returns-in_err-read_rule-clause-faults
returns-in_err-read_rule-clause-faults c =
    let l = c.loop-element in
    handed_on _ c.from_residual.result c.in_err-read_rule.field-0.0 c.from_residual.ensures.1 (each_told (λ rule. model.rule_misfits (tree_of rule)) c.args.elements.now l.element-index c.element-item.result c.in_err-read_rule.field-0.0 c.loop-element-test.true c.element-item.is l.invariant.faults c.in_err-read_rule.ensures.faults)

pub returns-clause-rules : goal.returns-clause-rules
returns-clause-rules c =
    let l = c.loop-element in
    filtered_all (λ v. option_and_then rule_of (tree_of v)) (map choice_rule_view l.rules.items) c.args.elements.now l.element-index (omega arith) l.invariant.rules
