use Rattle.asl_numbered.specs.Expansion.{shape_at}
use Rattle.asl_shape_paths.proofs.MissingTrees.{refused_some}
use Rattle.asl_shape_paths.proofs.counterexamples.counterexample_at.Goals as goal

pub unreachable-requires : goal.unreachable-requires
unreachable-requires c =
    let s = shape_at c.args.shapes.now c.args.doubtful.shape in
    refused_some c.args.doubtful.path.now s c.in_ok-tree.field-0 c.requires.refused c.in_ok-tree.ensures.exactly c.in-None.is
