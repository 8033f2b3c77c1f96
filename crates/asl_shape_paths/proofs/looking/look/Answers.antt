use Rattle.std.proofs.Common.{rules}
use Rattle.asl_shape.specs.View.{view}
use Rattle.asl_shape_paths.proofs.looking.look.Goals as goal

pub returns-in_ok-copy-in-Ok-clause-named : goal.returns-in_ok-copy-in-Ok-clause-named
returns-in_ok-copy-in-Ok-clause-named c = c.look_means_named.ensures.named c.args.path.now (view c.args.shape.now) (view c.in_ok-copy-in-Ok.field-0) (search rules)
