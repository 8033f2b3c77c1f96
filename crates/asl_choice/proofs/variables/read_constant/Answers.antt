use Rattle.std.proofs.Common.{sym}
use Rattle.serde_json.specs.View.{view as json_view}
use Rattle.asl_tree.proofs.Values.{whole-tree_of}
use Rattle.asl_choice.proofs.variables.read_constant.Goals as goal

pub returns-in-Ok-clause-tree : goal.returns-in-Ok-clause-tree
returns-in-Ok-clause-tree c = sym (whole-tree_of (json_view c.args.operand.now) _ c.in-Ok.ensures.tree)
