use Rattle.std.proofs.Common.{ap, ◌∙◌}
use Rattle.asl_tree.specs.View.{entries_view}
use Rattle.asl_tree.proofs.Views.{entries_view-insert_entry}
use Rattle.asl_streams.proofs.spellings.Spelling.put.Goals as goal

pub returns-clause-others : goal.returns-clause-others
returns-clause-others c = ap entries_view c.in_ok-insert.ensures.entries ∙ entries_view-insert_entry c.args.self.now.others.entries c.args.name c.args.tree
