use Rattle.std.proofs.Common.{Some, codes, pos, if◌then◌else◌, ap, ◌∙◌}
use Rattle.asl_model.specs.Tree as json
use Rattle.asl_shape.specs.Adding.{with_field}
use Rattle.asl_tree.specs.View as trees
use Rattle.asl_records.specs.Listing.{listed_shapes}
use Rattle.asl_records.specs.Numbered.{numbered_view}
use Rattle.asl_records.specs.Writing.{with_list}
use Rattle.asl_records.proofs.References.{certificate_made, certificate_proper}
use Rattle.asl_records.proofs.Writings.{view_object}
use Rattle.asl_records.proofs.writing_numbered.write_numbered.Goals as goal

pub returns-clause-written : goal.returns-clause-written
returns-clause-written c =
    let certificate = c.args.certificate.now in
    let listed = listed_shapes certificate.shapes c.in_ok-listing.listing in
    let one = trees.entries_view c.add_shape.new.fields.entries in
    let two = trees.entries_view c.add_list.new.fields.entries in
    let three = trees.entries_view c.add.new.fields.entries in
    let states = c.in_ok-states.states in
    let listing_added = c.in_ok-add_list.ensures ∙ ap (λ ts. with_list (codes "shapes") ts one) c.in_ok-write_listed.ensures.written in
    let states_added = c.in_ok-add.ensures ∙ ap (λ t. with_field (codes "states") t two) (view_object states ∙ ap json.Object c.in_ok-states.ensures.written) in
    let version_added = c.in_ok-add_version.ensures ∙ ap (λ several. with_field (codes "version") (json.Integer (pos (if several then 2 else 1))) three) c.has_several.ensures.several in
    view_object c.add_version.new.fields ∙ certificate_made (numbered_view certificate) listed (trees.entries_view c.new-fields.result.entries) one two three (trees.entries_view c.add_version.new.fields.entries) c.in_ok-listing.ensures.listed (ap trees.entries_view c.new-fields.ensures.empty) c.in_ok-add_shape.ensures.added listing_added states_added version_added

pub returns-clause-reads_back : goal.returns-clause-reads_back
returns-clause-reads_back c = λ v is.
    let certificate = c.args.certificate.now in
    c.written_records_are_read_back.ensures.numbered v (numbered_view certificate) (certificate_proper certificate c.are_proper.ensures.proper) (is ∙ ap Some (returns-clause-written c))
