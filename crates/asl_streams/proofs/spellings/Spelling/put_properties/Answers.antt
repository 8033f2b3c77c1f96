use Rattle.std.proofs.Common.{ap, ap₂, ◌∙◌}
use Rattle.asl_model.specs.Tree as model
use Rattle.asl_tree.specs.View.{entries_view}
use Rattle.asl_tree.proofs.Views.{entries_view-insert_entry, put}
use Rattle.asl_tree.proofs.Wholes.{view_object}
use Rattle.asl_streams.proofs.spellings.Spelling.put_properties.Goals as goal

pub returns-clause-others : goal.returns-clause-others
returns-clause-others c =
    let others = c.args.self.now.others.entries in
    let empty = view_object c.new.result ∙ ap (λ es. model.Object (entries_view es)) c.new.ensures.empty in
    ap entries_view c.in_ok-insert.ensures.entries ∙ entries_view-insert_entry others c.in_ok-name.name _ ∙ ap₂ (λ n t. put n t (entries_view others)) c.in_ok-name.ensures.ok empty
