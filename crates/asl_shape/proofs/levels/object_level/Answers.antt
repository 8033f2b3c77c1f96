use Rattle.asl_shape.specs.Spelled.{entries_view}
use Rattle.asl_shape.proofs.Wholes.{object_right}
use Rattle.asl_shape.proofs.levels.object_level.Goals as goal

pub returns-clause-right : goal.returns-clause-right
returns-clause-right c =
    object_right (entries_view c.args.keywords.now.entries) c.in_ok-properties.ensures.right c.in_ok-required.ensures.right c.in_ok-extra.ensures.right
