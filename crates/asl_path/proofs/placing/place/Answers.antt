use Rattle.std.proofs.Common.{rules}
use Rattle.asl_model.proofs.PlacingExactly.{placed_so}
use Rattle.asl_path.proofs.Room.{placing_refused}
use Rattle.asl_tree.specs.View.{view}
use Rattle.asl_path.proofs.placing.place.Goals as goal

pub returns-in-Ok-clause-placing : goal.returns-in-Ok-clause-placing
returns-in-Ok-clause-placing c = placed_so _ _ _ _ (search rules)

pub returns-in-Err-clause-no_placing : goal.returns-in-Err-clause-no_placing
returns-in-Err-clause-no_placing c =
    let refused = rw c.segments.ensures.steps at c.in-Err.ensures.refused in
    placing_refused c.in-Err.refusal (view c.args.value) refused
