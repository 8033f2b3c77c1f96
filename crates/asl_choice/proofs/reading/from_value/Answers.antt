use Rattle.std.proofs.Common.{◌≡◌, true, is_some, refl, rules}
use Rattle.serde_json.specs.View.{view as json_view}
use Rattle.asl_model.specs.Json.{tree_of}
use Rattle.asl_model.specs.RuleSpelling as model
use Rattle.asl_choice.specs.declared.refusal.RuleRefusal.TheVariants.{NotARule, UnknownOperator, BadOperand, BadPath, BadPattern, EmptyList, NextInside}
use Rattle.asl_choice.proofs.Wholes.{spelled_whole, told_whole}
use Rattle.asl_choice.proofs.reading.from_value.Goals as goal

pub returns-then-is_whole-clause-spelled : goal.returns-then-is_whole-clause-spelled
returns-then-is_whole-clause-spelled c =
    spelled_whole c.read_top.result (json_view c.args.value.now) (search rules) c.read_top.ensures.spelled

pub returns-then-is_whole-clause-not_a_rule : goal.returns-then-is_whole-clause-not_a_rule
returns-then-is_whole-clause-not_a_rule c =
    let v = json_view c.args.value.now in
    let there : is_some (tree_of v) ≡ true = search rules in
    told_whole c.read_top.result v NotARule model.NotARule there c.read_top.ensures.refused refl

pub returns-then-is_whole-clause-unknown_operator : goal.returns-then-is_whole-clause-unknown_operator
returns-then-is_whole-clause-unknown_operator c =
    let v = json_view c.args.value.now in
    let there : is_some (tree_of v) ≡ true = search rules in
    told_whole c.read_top.result v UnknownOperator model.UnknownOperator there c.read_top.ensures.refused refl

pub returns-then-is_whole-clause-bad_operand : goal.returns-then-is_whole-clause-bad_operand
returns-then-is_whole-clause-bad_operand c =
    let v = json_view c.args.value.now in
    let there : is_some (tree_of v) ≡ true = search rules in
    told_whole c.read_top.result v BadOperand model.BadOperand there c.read_top.ensures.refused refl

pub returns-then-is_whole-clause-bad_path : goal.returns-then-is_whole-clause-bad_path
returns-then-is_whole-clause-bad_path c =
    let v = json_view c.args.value.now in
    let there : is_some (tree_of v) ≡ true = search rules in
    told_whole c.read_top.result v BadPath model.BadPath there c.read_top.ensures.refused refl

pub returns-then-is_whole-clause-bad_pattern : goal.returns-then-is_whole-clause-bad_pattern
returns-then-is_whole-clause-bad_pattern c =
    let v = json_view c.args.value.now in
    let there : is_some (tree_of v) ≡ true = search rules in
    told_whole c.read_top.result v BadPattern model.BadPattern there c.read_top.ensures.refused refl

pub returns-then-is_whole-clause-empty_list : goal.returns-then-is_whole-clause-empty_list
returns-then-is_whole-clause-empty_list c =
    let v = json_view c.args.value.now in
    let there : is_some (tree_of v) ≡ true = search rules in
    told_whole c.read_top.result v EmptyList model.EmptyList there c.read_top.ensures.refused refl

pub returns-then-is_whole-clause-next_inside : goal.returns-then-is_whole-clause-next_inside
returns-then-is_whole-clause-next_inside c =
    let v = json_view c.args.value.now in
    let there : is_some (tree_of v) ≡ true = search rules in
    told_whole c.read_top.result v NextInside model.NextInside there c.read_top.ensures.refused refl
