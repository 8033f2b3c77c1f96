use Rattle.std.proofs.Common.{Some, codes, ap, ◌∙◌}
use Rattle.asl_model.proofs.RecordsBack.{declared_back}
use Rattle.asl_model.specs.Tree as json
use Rattle.asl_shape.specs.Adding.{with_field}
use Rattle.asl_tree.specs.View as trees
use Rattle.asl_records.specs.View.{declared_view}
use Rattle.asl_records.proofs.Writings.{view_object, declared_made}
use Rattle.asl_records.proofs.writing.write_declared.Goals as goal

pub returns-clause-reads_back : goal.returns-clause-reads_back
returns-clause-reads_back c = λ v is.
    let declared = declared_view c.args.declared.now in
    let none = trees.entries_view c.new-fields.result.entries in
    let one = trees.entries_view c.add_shape.new.fields.entries in
    let tasks = c.in_ok-tasks.tasks in
    let added = c.in_ok-add.ensures ∙ ap (λ t. with_field (codes "tasks") t one) (view_object tasks ∙ ap json.Object c.in_ok-tasks.ensures.written) in
    let written = view_object c.add.new.fields ∙ declared_made declared none one (trees.entries_view c.add.new.fields.entries) (ap trees.entries_view c.new-fields.ensures.empty) c.in_ok-add_shape.ensures.added added in
    declared_back v declared (record { input = c.in_ok-add_shape.ensures.spelled; tasks = c.in_ok-tasks.ensures.spelled.spelled }) (is ∙ ap Some written)
