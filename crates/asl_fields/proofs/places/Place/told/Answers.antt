use Rattle.std.proofs.Common.{ap, map, subst}
use Rattle.asl_model.specs.StandsFor.{complaint_at}
use Rattle.asl_fields.specs.Verdicts.{IsMisfit, place_view}
use Rattle.asl_fields.proofs.places.Place.told.Goals as goal

pub returns-in-Ok : goal.returns-in-Ok
returns-in-Ok c = λ faults h. record {
  holds = ap (map (complaint_at (place_view c.args.self.now) c.args.field.now)) (subst (IsMisfit faults) c.in-Ok.is h).holds;
}

pub returns-in-Err : goal.returns-in-Err
returns-in-Err c = λ faults h. record { holds = c.complaint.ensures.among faults (subst (IsMisfit faults) c.in-Err.is h).holds }
