use Rattle.std.proofs.Common.{◌∙◌, ap, refl}
use Rattle.asl_tree.specs.View.{view}
use Rattle.asl_processing.specs.Data.{data_view}
use Rattle.asl_processing.proofs.Told.{misfit_told}
use Rattle.asl_processing.proofs.flowing.place_result.Goals as goal

pub returns-in-Err-CannotPlace-default-default : goal.returns-in-Err-CannotPlace-default-default
returns-in-Err-CannotPlace-default-default c =
    let refused = c.in-Err-CannotPlace-default-default in
    misfit_told data_view c.args.path.now c.in-Some.path (view c.in_ok-own.own) (data_view c.args.value) (view c.in_ok-copied.copied) (view c.args.raw.now.value) _ c.in-Some.is c.in_ok-own.ensures (c.in_ok-copied.ensures ∙ ap view c.deref.ensures) (refused.ensures.no_placing.0 refused.field-0-0-is) refl
