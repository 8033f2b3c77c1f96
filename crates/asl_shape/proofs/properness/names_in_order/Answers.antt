use Rattle.asl_model.proofs.ShapeExample.{proper-ordered}
use Rattle.asl_shape.specs.View.{view}
use Rattle.asl_shape.proofs.properness.names_in_order.Goals as goal

pub returns-clause-ordered : goal.returns-clause-ordered
returns-clause-ordered c = proper-ordered (view c.args.shape.now) c.is_well_formed.ensures.names.proper
