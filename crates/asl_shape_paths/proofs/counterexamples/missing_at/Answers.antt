use Rattle.asl_model.proofs.ShapeExample.{proper-ordered}
use Rattle.asl_numbered.specs.Expansion.{shape_at}
use Rattle.asl_shape_paths.proofs.MissingTrees.{missing_told}
use Rattle.asl_shape_paths.proofs.counterexamples.missing_at.Goals as goal

pub returns-clause-missing : goal.returns-clause-missing
returns-clause-missing c =
    let s = shape_at c.args.shapes.now c.args.number in
    let ordered = proper-ordered s (c.are_proper.ensures.proper c.args.number) in
    missing_told c.args.path.now s c.in_ok-tree.tree c.in_ok-tree.ensures.as_defined (λ t. c.look_is_exactly_named.ensures.missing c.args.path.now s t ordered)
