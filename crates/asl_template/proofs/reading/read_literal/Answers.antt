use Rattle.std.proofs.Common.{sym, ap, ◌∙◌}
use Rattle.serde_json.specs.View.{view as json_view}
use Rattle.asl_model.specs.Template.{Literal}
use Rattle.asl_tree.proofs.Values.{whole-tree_of}
use Rattle.asl_template.proofs.Parts.{view_Literal}
use Rattle.asl_template.proofs.reading.read_literal.Goals as goal

pub returns-in-Ok-clause-template : goal.returns-in-Ok-clause-template
returns-in-Ok-clause-template c = view_Literal c.in-Ok.tree ∙ ap Literal (sym (whole-tree_of (json_view c.args.value.now) _ c.in-Ok.ensures.tree))
