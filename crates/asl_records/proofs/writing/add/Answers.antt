use Rattle.std.proofs.Common.{ap, ◌∙◌}
use Rattle.asl_shape.proofs.Writings.{field_added}
use Rattle.asl_shape.specs.Adding.{with_field}
use Rattle.asl_tree.specs.View as trees
use Rattle.asl_records.proofs.writing.add.Goals as goal

pub returns : goal.returns
returns c =
    let es = c.args.fields.now.entries in
    ap trees.entries_view c.in_ok-insert.ensures.entries
    ∙ field_added es c.in_ok-from_str.field-0 c.args.value
    ∙ ap (λ n. with_field n (trees.view c.args.value) (trees.entries_view es)) c.in_ok-from_str.ensures.ok
