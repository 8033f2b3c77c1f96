use Rattle.std.proofs.Common.{sym, ◌∙◌}
use Rattle.asl_tree.specs.View as trees
use Rattle.asl_records.proofs.Writings.{list_added}
use Rattle.asl_records.proofs.writing.add_list.Goals as goal

pub returns-in_ok-add : goal.returns-in_ok-add
returns-in_ok-add c =
    list_added c.args.name.now c.args.elements (trees.entries_view c.args.fields.now.entries) (trees.entries_view c.add.new.fields.entries) (sym c.is_empty.ensures ∙ c.if-not-is_empty.true) c.in_ok-add.ensures
