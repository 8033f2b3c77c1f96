use Rattle.asl_shape.proofs.Wholes.{object_told}
use Rattle.asl_shape.proofs.levels.read_level.Goals as goal

pub returns-in-Object-clause-faulty : goal.returns-in-Object-clause-faulty
returns-in-Object-clause-faulty c =
    rw c.in-Object.is (object_told c.args.several c.in-Object.keywords c.keyword_level.result c.keyword_level.ensures.refused)
