use Rattle.asl_shape_paths.proofs.KindNumbers.{taken_in}
use Rattle.asl_shape_paths.proofs.kinds.kinds_of.Goals as goal

pub returns-clause-within : goal.returns-clause-within
returns-clause-within c = taken_in c.args.shapes.now c.args.number c.requires.number c.take_apart.result c.take_apart.ensures.within
