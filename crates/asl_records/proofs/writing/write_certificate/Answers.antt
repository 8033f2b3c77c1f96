use Rattle.std.proofs.Common.{Some, codes, pos, if◌then◌else◌, ap, ◌∙◌}
use Rattle.asl_model.proofs.RecordsBack.{certificate_back}
use Rattle.asl_model.specs.Tree as json
use Rattle.asl_shape.specs.Adding.{with_field}
use Rattle.asl_tree.specs.View as trees
use Rattle.asl_records.specs.View.{certificate_view}
use Rattle.asl_records.proofs.Writings.{view_object, certificate_made}
use Rattle.asl_records.proofs.writing.write_certificate.Goals as goal

pub returns-clause-reads_back : goal.returns-clause-reads_back
returns-clause-reads_back c = λ v is.
    let certificate = certificate_view c.args.certificate.now in
    let none = trees.entries_view c.new-fields.result.entries in
    let one = trees.entries_view c.add_shape.new.fields.entries in
    let two = trees.entries_view c.add.new.fields.entries in
    let states = c.in_ok-states.states in
    let added = c.in_ok-add.ensures ∙ ap (λ t. with_field (codes "states") t one) (view_object states ∙ ap json.Object c.in_ok-states.ensures.written) in
    let versioned = c.in_ok-add_version.ensures ∙ ap (λ several. with_field (codes "version") (json.Integer (pos (if several then 2 else 1))) two) c.in_ok-has_several.ensures.several in
    let written = view_object c.add_version.new.fields ∙ certificate_made certificate none one two (trees.entries_view c.add_version.new.fields.entries) (ap trees.entries_view c.new-fields.ensures.empty) c.in_ok-add_shape.ensures.added added versioned in
    certificate_back v certificate (record { output = c.in_ok-add_shape.ensures.spelled; states = c.in_ok-states.ensures.spelled.spelled }) (is ∙ ap Some written)
