use Rattle.std.proofs.Common.{◌≡◌, true, is_some, refl, rules}
use Rattle.serde_json.specs.View.{view as json_view}
use Rattle.asl_model.specs.Json.{tree_of}
use Rattle.asl_model.specs.TemplateSpelling as model
use Rattle.asl_template.specs.declared.refusal.SpellingRefusal.TheVariants.{NotObject, NotText, BadPath, BadIntrinsic, DuplicateAfterStrip, LeftOutContext}
use Rattle.asl_template.proofs.Wholes.{spelled_whole, stands_whole, told_whole}
use Rattle.asl_template.proofs.reading.from_value.Goals as goal

pub returns-then-is_whole-clause-spelled : goal.returns-then-is_whole-clause-spelled
returns-then-is_whole-clause-spelled c =
    spelled_whole c.args.item c.read_top.result (json_view c.args.value.now) (search rules) c.read_top.ensures.spelled

pub returns-then-is_whole-clause-stands_for : goal.returns-then-is_whole-clause-stands_for
returns-then-is_whole-clause-stands_for c =
    stands_whole c.args.item c.read_top.result (json_view c.args.value.now) (search rules) c.read_top.ensures.spelled

pub returns-then-is_whole-clause-not_object : goal.returns-then-is_whole-clause-not_object
returns-then-is_whole-clause-not_object c =
    let there : is_some (tree_of (json_view c.args.value.now)) ≡ true = search rules in
    told_whole c.args.item c.read_top.result (json_view c.args.value.now) NotObject model.NotObject there c.read_top.ensures.refused refl

pub returns-then-is_whole-clause-not_text : goal.returns-then-is_whole-clause-not_text
returns-then-is_whole-clause-not_text c =
    let there : is_some (tree_of (json_view c.args.value.now)) ≡ true = search rules in
    told_whole c.args.item c.read_top.result (json_view c.args.value.now) NotText model.NotText there c.read_top.ensures.refused refl

pub returns-then-is_whole-clause-bad_path : goal.returns-then-is_whole-clause-bad_path
returns-then-is_whole-clause-bad_path c =
    let there : is_some (tree_of (json_view c.args.value.now)) ≡ true = search rules in
    told_whole c.args.item c.read_top.result (json_view c.args.value.now) BadPath model.BadPath there c.read_top.ensures.refused refl

pub returns-then-is_whole-clause-bad_intrinsic : goal.returns-then-is_whole-clause-bad_intrinsic
returns-then-is_whole-clause-bad_intrinsic c =
    let there : is_some (tree_of (json_view c.args.value.now)) ≡ true = search rules in
    told_whole c.args.item c.read_top.result (json_view c.args.value.now) BadIntrinsic model.BadIntrinsic there c.read_top.ensures.refused refl

pub returns-then-is_whole-clause-duplicate_after_strip : goal.returns-then-is_whole-clause-duplicate_after_strip
returns-then-is_whole-clause-duplicate_after_strip c =
    let there : is_some (tree_of (json_view c.args.value.now)) ≡ true = search rules in
    told_whole c.args.item c.read_top.result (json_view c.args.value.now) DuplicateAfterStrip model.DuplicateAfterStrip there c.read_top.ensures.refused refl

pub returns-then-is_whole-clause-left_out_context : goal.returns-then-is_whole-clause-left_out_context
returns-then-is_whole-clause-left_out_context c =
    let there : is_some (tree_of (json_view c.args.value.now)) ≡ true = search rules in
    told_whole c.args.item c.read_top.result (json_view c.args.value.now) LeftOutContext model.LeftOutContext there c.read_top.ensures.refused refl
