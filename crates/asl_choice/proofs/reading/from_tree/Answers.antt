use Rattle.std.proofs.Common.{◌≡◌, Some, None, sym, ◌∙◌}
use Rattle.serde_json.specs.View.{view as json_view}
use Rattle.asl_model.specs.RuleSpelling as model
use Rattle.asl_tree.specs.View as trees
use Rattle.asl_choice.proofs.Wholes.{spelled_this, told_this}
use Rattle.asl_choice.proofs.reading.from_tree.Goals as goal

pub returns-clause-spelled : goal.returns-clause-spelled
returns-clause-spelled c =
    spelled_this c.from_value.result (json_view c.in_ok-value.value) (trees.view c.args.tree.now) c.in_ok-value.ensures.reads_back c.from_value.ensures.spelled

pub returns-clause-not_a_rule : goal.returns-clause-not_a_rule
returns-clause-not_a_rule c = λ h.
    told_this (json_view c.in_ok-value.value) model.NotARule (trees.view c.args.tree.now) c.in_ok-value.ensures.reads_back (c.from_value.ensures.not_a_rule h)

pub returns-clause-unknown_operator : goal.returns-clause-unknown_operator
returns-clause-unknown_operator c = λ h.
    told_this (json_view c.in_ok-value.value) model.UnknownOperator (trees.view c.args.tree.now) c.in_ok-value.ensures.reads_back (c.from_value.ensures.unknown_operator h)

pub returns-clause-bad_operand : goal.returns-clause-bad_operand
returns-clause-bad_operand c = λ h.
    told_this (json_view c.in_ok-value.value) model.BadOperand (trees.view c.args.tree.now) c.in_ok-value.ensures.reads_back (c.from_value.ensures.bad_operand h)

pub returns-clause-bad_path : goal.returns-clause-bad_path
returns-clause-bad_path c = λ h.
    told_this (json_view c.in_ok-value.value) model.BadPath (trees.view c.args.tree.now) c.in_ok-value.ensures.reads_back (c.from_value.ensures.bad_path h)

pub returns-clause-bad_pattern : goal.returns-clause-bad_pattern
returns-clause-bad_pattern c = λ h.
    told_this (json_view c.in_ok-value.value) model.BadPattern (trees.view c.args.tree.now) c.in_ok-value.ensures.reads_back (c.from_value.ensures.bad_pattern h)

pub returns-clause-empty_list : goal.returns-clause-empty_list
returns-clause-empty_list c = λ h.
    told_this (json_view c.in_ok-value.value) model.EmptyList (trees.view c.args.tree.now) c.in_ok-value.ensures.reads_back (c.from_value.ensures.empty_list h)

pub returns-clause-next_inside : goal.returns-clause-next_inside
returns-clause-next_inside c = λ h.
    told_this (json_view c.in_ok-value.value) model.NextInside (trees.view c.args.tree.now) c.in_ok-value.ensures.reads_back (c.from_value.ensures.next_inside h)

pub returns-clause-of_tree : goal.returns-clause-of_tree
returns-clause-of_tree c = λ h.
    let both : Some (trees.view c.args.tree.now) ≡ None = sym c.in_ok-value.ensures.reads_back ∙ c.from_value.ensures.not_whole h in
    absurd (cc)
