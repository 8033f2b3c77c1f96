use Rattle.std.proofs.Common.{ap, not}
use Rattle.asl_model.specs.ShapeSpelling as model
use Rattle.asl_shape.proofs.levels.untyped_level.Goals as goal

pub returns-then-all_among-clause-right : goal.returns-then-all_among-clause-right
returns-then-all_among-clause-right c = c.all_among.ensures.known c.if-all_among.true model.BadType

pub returns-else-all_among-clause-refused : goal.returns-else-all_among-clause-refused
returns-else-all_among-clause-refused c =
    record { listed = c.all_among.ensures.foreign (ap not c.if-all_among.false) model.BadType }
