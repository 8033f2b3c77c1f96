use Rattle.std.proofs.Common.{◌≡◌, Some, None, sym, ◌∙◌}
use Rattle.serde_json.specs.View.{view as json_view}
use Rattle.asl_model.specs.TemplateSpelling as model
use Rattle.asl_tree.specs.View as trees
use Rattle.asl_template.proofs.Wholes.{spelled_this, stands_this, told_this}
use Rattle.asl_template.proofs.reading.from_tree.Goals as goal

pub returns-clause-spelled : goal.returns-clause-spelled
returns-clause-spelled c =
    spelled_this c.args.item c.from_value.result (json_view c.in_ok-value.value) (trees.view c.args.tree.now) c.in_ok-value.ensures.reads_back c.from_value.ensures.spelled

pub returns-clause-stands_for : goal.returns-clause-stands_for
returns-clause-stands_for c =
    stands_this c.args.item c.from_value.result (json_view c.in_ok-value.value) (trees.view c.args.tree.now) c.in_ok-value.ensures.reads_back c.from_value.ensures.stands_for

pub returns-clause-not_object : goal.returns-clause-not_object
returns-clause-not_object c = λ h.
    told_this c.args.item (json_view c.in_ok-value.value) model.NotObject (trees.view c.args.tree.now) c.in_ok-value.ensures.reads_back (c.from_value.ensures.not_object h)

pub returns-clause-not_text : goal.returns-clause-not_text
returns-clause-not_text c = λ h.
    told_this c.args.item (json_view c.in_ok-value.value) model.NotText (trees.view c.args.tree.now) c.in_ok-value.ensures.reads_back (c.from_value.ensures.not_text h)

pub returns-clause-bad_path : goal.returns-clause-bad_path
returns-clause-bad_path c = λ h.
    told_this c.args.item (json_view c.in_ok-value.value) model.BadPath (trees.view c.args.tree.now) c.in_ok-value.ensures.reads_back (c.from_value.ensures.bad_path h)

pub returns-clause-bad_intrinsic : goal.returns-clause-bad_intrinsic
returns-clause-bad_intrinsic c = λ h.
    told_this c.args.item (json_view c.in_ok-value.value) model.BadIntrinsic (trees.view c.args.tree.now) c.in_ok-value.ensures.reads_back (c.from_value.ensures.bad_intrinsic h)

pub returns-clause-duplicate_after_strip : goal.returns-clause-duplicate_after_strip
returns-clause-duplicate_after_strip c = λ h.
    told_this c.args.item (json_view c.in_ok-value.value) model.DuplicateAfterStrip (trees.view c.args.tree.now) c.in_ok-value.ensures.reads_back (c.from_value.ensures.duplicate_after_strip h)

pub returns-clause-left_out_context : goal.returns-clause-left_out_context
returns-clause-left_out_context c = λ h.
    told_this c.args.item (json_view c.in_ok-value.value) model.LeftOutContext (trees.view c.args.tree.now) c.in_ok-value.ensures.reads_back (c.from_value.ensures.left_out_context h)

pub returns-clause-of_tree : goal.returns-clause-of_tree
returns-clause-of_tree c = λ h.
    let both : Some (trees.view c.args.tree.now) ≡ None = sym c.in_ok-value.ensures.reads_back ∙ c.from_value.ensures.not_whole h in
    absurd (cc)
