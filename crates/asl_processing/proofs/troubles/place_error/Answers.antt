use Rattle.std.proofs.Common.{Some, refl}
use Rattle.asl_tree.specs.View.{view}
use Rattle.asl_processing.proofs.Misfits.{nothing_handed_on}
use Rattle.asl_processing.proofs.troubles.place_error.Goals as goal

pub returns-in-Err-CannotPlace-default-default : goal.returns-in-Err-CannotPlace-default-default
returns-in-Err-CannotPlace-default-default c =
    let refused = c.in-Err-CannotPlace-default-default in
    nothing_handed_on (Some c.args.path.now) c.args.path.now (view c.in_ok-output.output) (view c.in_ok-copy.field-0) (view c.args.raw.now) c.args.error.now c.args.cause.now refl c.in_ok-output.ensures c.in_ok-copy.ensures (refused.ensures.no_placing.0 refused.field-0-0-is)
