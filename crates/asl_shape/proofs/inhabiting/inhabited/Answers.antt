use Rattle.std.proofs.Common.{sym, ◌∙◌}
use Rattle.asl_shape.proofs.Witnesses.{proper_tree}
use Rattle.asl_shape.specs.View.{view}
use Rattle.asl_shape.proofs.inhabiting.inhabited.Goals as goal

pub returns-clause-some_tree : goal.returns-clause-some_tree
returns-clause-some_tree c live =
    proper_tree c.inhabited_means_some_tree.ensures.some (view c.args.shape.now) (c.is_inhabited.ensures.orderly live).orderly (sym c.is_inhabited.ensures.as_defined ∙ live)
