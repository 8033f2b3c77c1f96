use Rattle.std.proofs.Common.{ap, ◌∙◌}
use Rattle.asl_tree.specs.View as trees
use Rattle.asl_shape.specs.Adding.{with_field}
use Rattle.asl_shape.proofs.Writings.{field_added}
use Rattle.asl_shape.proofs.writing.add_if.Goals as goal

pub returns-in_ok-insert : goal.returns-in_ok-insert
returns-in_ok-insert c =
    let es = c.args.keywords.now.entries in
    let added = field_added es c.in_ok-from_str.field-0 c.args.value in
    rw c.if-wanted.true (ap trees.entries_view c.in_ok-insert.ensures.entries ∙ added ∙ ap (λ n. with_field n (trees.view c.args.value) (trees.entries_view es)) c.in_ok-from_str.ensures.ok)
