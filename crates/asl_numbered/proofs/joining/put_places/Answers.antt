use Rattle.std.proofs.Common.{arith}
use Rattle.asl_numbered.proofs.Joins.{none_put}
use Rattle.asl_numbered.proofs.joining.put_places.Goals as goal

pub loop-index-init : goal.loop-index-init
loop-index-init c = (
  none_put c.args.tasks.now.items c.args.places.now c.args.others.now c.min-index.result (omega (arith, c.min-index.ensures)),
  omega (arith, c.min-index.ensures),
  omega (arith, c.min-index.ensures),
)
