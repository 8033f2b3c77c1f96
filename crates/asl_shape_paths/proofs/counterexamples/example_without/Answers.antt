use Rattle.std.proofs.Common.{rules}
use Rattle.asl_model.proofs.ShapeMissing.{missing-exactly}
use Rattle.asl_numbered.specs.Expansion.{shape_at}
use Rattle.asl_shape_paths.proofs.MissingTrees.{none_missing}
use Rattle.asl_shape_paths.proofs.counterexamples.example_without.Goals as goal

pub returns-then-is_ok-clause-as_defined : goal.returns-then-is_ok-clause-as_defined
returns-then-is_ok-clause-as_defined c =
    let s = shape_at c.args.shapes.now c.args.number in
    none_missing c.args.path.now s c.args.shapes.now c.find_part.result c.find_part.ensures.found (search rules) (missing-exactly c.args.path.now s)
